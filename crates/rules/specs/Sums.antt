-- What the bounds of the rules share about sums of points.
use Rattle.std.specs.Prelude.{◌≡◌, ℕ, ◌+◌, ◌≤◌, List, length, nat_le, nat_lt}
use Rattle.std.proofs.Common.{◌∙◌, arith}
use Rattle.std.proofs.lemmas.Bool.{and_from, le-leb, lt-ltb}
use Rattle.candidates.specs.Sets.{Within, counting}
use Rattle.candidates.proofs.Sets.{sub-from-within, from-counting, is_in-counting, length-sub, length-counting}
use Rattle.sheets.specs.Meaning.{Meaning, Lawful}
use Rattle.sheets.specs.Weights.{total, rho}
use Rattle.sheets.proofs.Weights.{rho-limit, total-sum, total-same}
use Rattle.rules.specs.Bounds.{Candidates}

pub length-candidates : (m : Meaning) → Lawful m → (S : List ℕ) → Candidates m S → length S ≤ 256
length-candidates m law S c =
    let listed = λ (k : ℕ). is_in-counting k 0 m.size in
    let within : Within S (counting 0 m.size) = λ k e. listed k ∙ and_from (nat_le 0 k) (nat_lt k (0 + m.size)) (le-leb 0 k (omega arith)) (lt-ltb k (0 + m.size) (omega (arith, c.below k e))) in
    let part = sub-from-within 0 0 S (counting 0 m.size) c.ascending (from-counting 0 m.size) within in
    omega (arith, law.most, length-sub part, length-counting 0 m.size)

-- 256 times the most points of two
pub rho-candidates : (m : Meaning) → Lawful m → (C : List ℕ) → Candidates m C → (v : ℕ) → rho m C v ≤ 16776704
rho-candidates m law C c v = omega (arith, rho-limit m law C v, length-candidates m law C c)

-- each raised by its points with v
pub total-raised : (m : Meaning) → Lawful m → (f : ℕ → ℕ) (v : ℕ) (F : List ℕ) → total (λ w. f w + m.points v w) F ≡ total f F + rho m F v
total-raised m law f v F = omega (arith, total-sum f (m.points v) F, total-same (λ u. m.points u v) (m.points v) F (λ u _. law.points-both u v))
