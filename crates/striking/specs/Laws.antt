-- The laws of a sheet hold above any sheet, whatever is struck.
use Rattle.std.specs.Prelude.{◌≡◌, ℕ, ◌≤◌, Bool, true, false, cond, not, ◌&&◌, List, refl}
use Rattle.std.proofs.Common.{arith}
use Rattle.std.proofs.lemmas.Bool.{and_right, cond_both}
use Rattle.candidates.proofs.Sets.{and_comm}
use Rattle.candidates.specs.Sets.{is_in}
use Rattle.sheets.specs.Meaning.{Meaning, Lawful}
use Rattle.striking.specs.Striking.{standing, struck}

-- points where x holds: none if, where it holds, there is no fit and so no points
none_left : (x fit : Bool) (points : ℕ) → (fit ≡ false → points ≡ 0) → (x && fit) ≡ false → cond x points 0 ≡ 0
none_left true fit points none apart = none apart
none_left false fit points none apart = refl

module _ (m : Meaning) (set : List ℕ) where
  standing-both : (u v : ℕ) → standing set u v ≡ standing set v u
  standing-both u v = and_comm (not (is_in u set)) (not (is_in v set))

  pub struck-lawful : Lawful m → Lawful (struck m set)
  struck-lawful law = record {
    least = law.least;
    most = law.most;
    fit-both = λ u v. λ i. standing-both u v i && law.fit-both u v i;
    points-both = λ u v. λ i. cond (standing-both u v i) (law.points-both u v i) 0;
    not_itself = λ u. and_right (standing set u u) (m.fit u u) (law.not_itself u);
    no-points = λ u v. none_left (standing set u v) (m.fit u v) (m.points u v) (law.no-points u v);
    outside = λ u v past. and_right (standing set u v) (m.fit u v) (law.outside u v past);
    highest = λ u v. cond_both (standing set u v) (m.points u v) 0 (λ p. p ≤ 65534) (λ _. law.highest u v) (λ _. omega arith);
  }
