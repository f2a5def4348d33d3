-- Where the records of a list stand.
use Rattle.std.proofs.Common.{◌≡◌, ℕ, ◌+◌, ◌-◌, ◌*◌, ◌/◌, ◌%◌, ◌^◌, ◌<◌, ◌≤◌, min, List, length, take, ap, sym, ◌∙◌, ⊎_elim, arith}
use Rattle.std.proofs.lemmas.Bool.{cases_lt}
use Rattle.std.proofs.lemmas.List.{drop_all}
use Rattle.blocks.specs.Bytes.{number, part}
use Rattle.blocks.specs.Format.{record_at, record_in}
use Rattle.blocks.proofs.Parts.{part-part}

-- a place past the top of `usize` is past the end
part_saturated : (w p s : ℕ) (bytes : List ℕ) → length bytes < 2 ^ 64 → s ≡ min p (2 ^ 64 - 1) → part w s bytes ≡ part w p bytes
part_saturated w p s bytes short is =
    ⊎_elim
    (λ (fits : p < 2 ^ 64). ap (λ n. part w n bytes) (omega arith))
    (λ (past : 2 ^ 64 ≤ p). ap (take w) (drop_all s bytes (omega arith) ∙ sym (drop_all p bytes (omega arith))))
    (cases_lt p (2 ^ 64))

module _ (bytes : List ℕ) (short : length bytes < 2 ^ 64) (j s : ℕ) where
  pub key-place : s ≡ min (512 * (j / 126) + (4 + 4 * (j % 126))) (2 ^ 64 - 1) → number (part 2 s bytes) ≡ (record_at bytes j).key
  unfolding record_at record_in
  key-place is =
      let place : ℕ = 512 * (j / 126) + (4 + 4 * (j % 126)) in
      ap number (part_saturated 2 place s bytes short is ∙ sym (part-part 2 (4 + 4 * (j % 126)) 512 (512 * (j / 126)) bytes (omega arith)))

  pub points-place : s ≡ min (512 * (j / 126) + (6 + 4 * (j % 126))) (2 ^ 64 - 1) → number (part 2 s bytes) ≡ (record_at bytes j).points
  unfolding record_at record_in
  points-place is =
      let place : ℕ = 512 * (j / 126) + (6 + 4 * (j % 126)) in
      ap number (part_saturated 2 place s bytes short is ∙ sym (part-part 2 (6 + 4 * (j % 126)) 512 (512 * (j / 126)) bytes (omega arith)))
