-- The blocks of a list, put one behind another.
use Rattle.std.proofs.Common.{◌≡◌, ℕ, suc, ◌+◌, ◌-◌, ◌*◌, List, [], ◌∷◌, ◌++◌, length, drop, sym, ap, ◌∙◌, ap₂, arith}
use borrow.Rule.Slice.PartMut.{put_mid}
use Rattle.std.specs.List.{flat_map}
use Rattle.std.proofs.lemmas.List.{append_assoc, drop_at, drop-drop, flat_map_more, take_at}
use Rattle.candidates.specs.Sets.{counting}
use Rattle.candidates.proofs.Sets.{counting-next, length-counting}
use Rattle.sheets.specs.Meaning.{Meaning}
use Rattle.blocks.specs.Format.{Record, block_at, blocks_for, packed, records, written}
use Rattle.list_writer.proofs.Sizes.{length-joined, length-block_at}

module _ (low : ℕ) (rs : List Record) where
  abbrev pub standing : ℕ → List ℕ
  standing n = flat_map (block_at low rs) (counting 0 n)

  pub length-standing : (n : ℕ) → length (standing n) ≡ 512 * n
  length-standing n =
      length-joined (block_at low rs) 512 (length-block_at low rs) (counting 0 n) ∙ ap (λ k. 512 * k) (length-counting 0 n)

  standing-next : (place : ℕ) → standing place ++ block_at low rs place ≡ standing (place + 1)
  standing-next place =
      let here : 0 + place ≡ place = omega arith in
      let next : suc place ≡ place + 1 = omega arith in
      flat_map_more (block_at low rs) [] (counting 0 place) place ∙ ap (flat_map (block_at low rs)) (ap (λ p. counting 0 place ++ p ∷ []) (sym here) ∙ (sym (counting-next 0 place) ∙ ap (counting 0) next))

  -- the next block goes behind those that stand
  pub standing-put : (place : ℕ) (old now block : List ℕ) → now ≡ standing place ++ drop (512 * place) old → block ≡ block_at low rs place → put_mid (512 * place) (512 * place + 512 - 512 * place) now block ≡ standing (place + 1) ++ drop (512 * (place + 1)) old
  standing-put place old now block stand is =
      let width : 512 * place + 512 - 512 * place ≡ 512 = omega arith in
      let next : 512 * place + 512 ≡ 512 * (place + 1) = omega arith in
      let rest : List ℕ = drop (512 * place) old in
      let gone : drop 512 (drop (512 * place) (standing place ++ rest)) ≡ drop (512 * (place + 1)) old =
      ap (drop 512) (drop_at (standing place) rest (512 * place) (length-standing place)) ∙ (drop-drop 512 (512 * place) old ∙ ap (λ n. drop n old) next) in
      rw (width, stand, is) (ap₂ (λ a b. a ++ (block_at low rs place ++ b)) (take_at (standing place) rest (512 * place) (length-standing place)) gone ∙ (sym (append_assoc (standing place) (block_at low rs place) (drop (512 * (place + 1)) old)) ∙ ap (λ bs. bs ++ drop (512 * (place + 1)) old) (standing-next place)))

pub length-written : (m : Meaning) → length (written m) ≡ 512 * blocks_for (length (records m))
unfolding written packed
length-written m = length-standing (m.size - 1) (records m) (blocks_for (length (records m)))

-- all blocks stand
pub written-put : (m : Meaning) (blocks : ℕ) (old now : List ℕ) → blocks ≡ blocks_for (length (records m)) → now ≡ standing (m.size - 1) (records m) blocks ++ drop (512 * blocks) old → now ≡ written m ++ drop (length (written m)) old
unfolding written packed
written-put m blocks old now is all =
    let end : 512 * blocks ≡ length (written m) = omega (arith, length-written m) in
    all ∙ ap₂ (λ b n. standing (m.size - 1) (records m) b ++ drop n old) is end
