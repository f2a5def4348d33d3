use Rattle.std.proofs.Common.{◌≡◌, ℕ, ◌+◌, ◌-◌, ◌*◌, ◌<◌, ◌≤◌, min, false, ◌&&◌, ltb, leb, sym, ◌∙◌, arith, rules, tests}
use Rattle.std.proofs.lemmas.Bool.Decides.{nat_tests}
use Rattle.candidates.specs.Members.{bit}
use Rattle.candidates.specs.Sets.{counting}
use Rattle.candidates.proofs.Marks.{has-by, word, members-by}
use Rattle.candidates.proofs.Sets.{from-counting, is_in-counting}
use Rattle.candidates.proofs.set.CandidateSet.first.Goals as goal

-- the word at place q holds what is left of n there
within : (n q j : ℕ) → q < 4 → j < 64 → ltb j (n - 64 * q) ≡ (ltb (64 * q + j) n && ltb (64 * q + j) 256)
within n q j h l = grind (arith, nat_tests)

outside : (n k : ℕ) → 256 ≤ k → (ltb k n && ltb k 256) ≡ false
outside n k h = grind (arith, nat_tests)

below : (n k : ℕ) → (ltb k n && ltb k 256) ≡ (leb 0 k && ltb k (0 + min n 256))
below n k = grind (arith, nat_tests)

pub returns-clause-marks : goal.returns-clause-marks
returns-clause-marks c =
    let n = c.args.n in
    let ws = c.from_fn.result in
    has-by (record { words = ws }) (λ k. ltb k n && ltb k 256)
    (λ q j h l.
    let (f, g, made) = c.from_fn.ensures.items.at q 0 h in
    let low : bit (word (record { words = ws }) q) j ≡ ltb j (n - 64 * q) = search (rules, tests) in
    low ∙ within n q j h l)
    (outside n)

pub returns-clause-list : goal.returns-clause-list
returns-clause-list c =
    let n = c.args.n in
    members-by _ (counting 0 (min n 256)) (from-counting 0 (min n 256)) (λ k. returns-clause-marks c k ∙ below n k ∙ sym (is_in-counting k 0 (min n 256)))
