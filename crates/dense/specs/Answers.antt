-- What a dense sheet means. That it keeps the laws is known of every value.
use Rattle.std.proofs.Math.Bool.{Bool-set}
use Rattle.std.proofs.Math.Logic.{∥∥₁_elim}
use Rattle.std.proofs.Math.Bridge.{le_prop}
use Rattle.std.proofs.Math.Nat.{ℕ_set}
use Rattle.sheets.specs.Meaning.{Meaning, Lawful}
use Rattle.dense.specs.Dense.{meaning_by}
use Rattle.dense.specs.declared.sheet.DenseSheet.{DenseSheet}

abbrev pub meaning_of : DenseSheet → Meaning
meaning_of s = meaning_by s.size s.rows s.points

-- each law is a proposition
pub dense-lawful : (s : DenseSheet) → Lawful (meaning_of s)
dense-lawful s = record {
  least = ∥∥₁_elim s.laws le_prop (λ law. law.least);
  most = ∥∥₁_elim s.laws le_prop (λ law. law.most);
  fit-both = λ u v. ∥∥₁_elim s.laws (Bool-set _ _) (λ law. law.fit-both u v);
  points-both = λ u v. ∥∥₁_elim s.laws (ℕ_set _ _) (λ law. law.points-both u v);
  not_itself = λ u. ∥∥₁_elim s.laws (Bool-set _ _) (λ law. law.not_itself u);
  no-points = λ u v apart. ∥∥₁_elim s.laws (ℕ_set _ _) (λ law. law.no-points u v apart);
  outside = λ u v past. ∥∥₁_elim s.laws (Bool-set _ _) (λ law. law.outside u v past);
  highest = λ u v. ∥∥₁_elim s.laws le_prop (λ law. law.highest u v);
}
