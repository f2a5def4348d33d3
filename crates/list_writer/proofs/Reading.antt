-- A written list, read again: it is accepted and has the records that were written.
use Rattle.std.proofs.Common.{◌≡◌, ℕ, zero, suc, ◌+◌, ◌-◌, ◌*◌, ◌/◌, ◌%◌, ◌<◌, ◌≤◌, min, true, List, [], map, length, get_or, drop, sym, ap, ◌∙◌, ap₂, arith}
use Rattle.std.proofs.ByRecursion.{All-get_or}
use Rattle.std.proofs.lemmas.List.{append-nil, length-drop, length-take}
use Rattle.std.proofs.lemmas.Bool.Decides.{nat_tests}
use Rattle.candidates.specs.Sets.{counting}
use Rattle.candidates.proofs.Sets.{length-counting}
use Rattle.blocks.specs.Bytes.{number, part, all_zero}
use Rattle.blocks.specs.Format.{Record, block, block_at, block_count, blocks_for, check, packed, record_at, record_count, record_in, records_of}
use Rattle.blocks.specs.Questions.{count_right, unused}
use Rattle.blocks.proofs.Accepted.{Accepted, BlockRight, RecordRight, right-block, right-record}
use Rattle.list_writer.proofs.Chunks.{get_d-counting, get_d_part, map-counting, part-joined}
use Rattle.list_writer.proofs.Ordered.{Ordered, Right, rise-get_d}
use Rattle.list_writer.proofs.Sealed.{check-read, count-read, place_read, record-read, size-read, unused-read}
use Rattle.list_writer.proofs.Sizes.{length-block_at, length_part}
use Rattle.list_writer.proofs.Steps.{length-standing}

abbrev nothing : Record
nothing = record { key = 0; points = 0 }

-- the last block has what is left, and those before it are full
count-right : (n p : ℕ) → p < blocks_for n → count_right (blocks_for n) p (min 126 (n - 126 * p)) ≡ true
count-right n zero inside = grind (arith, nat_tests)
count-right n (suc p) inside = grind (arith, nat_tests)

module _ (low : ℕ) (rs : List Record) where
  abbrev bytes : List ℕ
  bytes = packed low rs

  abbrev blocks : ℕ
  blocks = blocks_for (length rs)

  abbrev chunk : ℕ → List Record
  chunk p = part 126 (126 * p) rs

  pub length-packed : length bytes ≡ 512 * blocks
  unfolding packed
  length-packed = length-standing low rs blocks

  block_count-packed : block_count bytes ≡ blocks
  block_count-packed = omega (arith, length-packed)

  block-packed : (p : ℕ) → p < blocks → block bytes p ≡ block_at low rs p
  unfolding packed
  block-packed p inside =
      let here : 0 + p ≡ p = omega arith in
      ap (part 512 (512 * p)) (sym (append-nil bytes)) ∙ (part-joined (block_at low rs) 512 (length-block_at low rs) (counting 0 blocks) [] p 0 (omega (arith, length-counting 0 blocks)) ∙ ap (block_at low rs) (get_d-counting 0 blocks p 0 inside ∙ here))

  get_d-packed : (p i : ℕ) → p < blocks → i < 512 → get_or bytes (512 * p + i) 0 ≡ get_or (block_at low rs p) i 0
  get_d-packed p i inside small =
      sym (get_d_part 512 (512 * p) bytes i 0 small) ∙ ap (λ bs. get_or bs i 0) (block-packed p inside)

  length-chunk : (p : ℕ) → length (chunk p) ≡ min 126 (length rs - 126 * p)
  length-chunk p = omega (arith, length-take 126 (drop (126 * p) rs), length-drop (126 * p) rs)

  count-packed : (p : ℕ) → get_or (block_at low rs p) 2 0 ≡ length (chunk p)
  unfolding block_at
  count-packed p = count-read low p (chunk p) (length_part 126 (126 * p) rs)

  size-at : (p : ℕ) → get_or (block_at low rs p) 3 0 ≡ low
  unfolding block_at
  size-at p = size-read low p (chunk p) (length_part 126 (126 * p) rs)

  pub size-packed : get_or bytes 3 0 ≡ low
  size-packed = get_d-packed 0 3 (omega arith) (omega arith) ∙ size-at 0

  record_count-packed : record_count bytes ≡ length rs
  unfolding record_count
  record_count-packed =
      let last : ℕ = blocks - 1 in
      ap (λ b. 126 * (b - 1) + get_or bytes (512 * (b - 1) + 2) 0) block_count-packed ∙ omega (arith, get_d-packed last 2 (omega arith) (omega arith), count-packed last, length-chunk last)

  module _ (byte : low < 256) (ordered : Ordered (low + 1) rs) where
    record-packed : (j : ℕ) → j < length rs → record_at bytes j ≡ get_or rs j nothing
    unfolding record_at block_at
    record-packed j inside =
        let p : ℕ = j / 126 in
        let i : ℕ = j % 126 in
        let whole : 126 * p + i ≡ j = omega arith in
        let there : get_or (chunk p) i nothing ≡ get_or rs j nothing =
        get_d_part 126 (126 * p) rs i nothing (omega arith) ∙ ap (λ k. get_or rs k nothing) whole in
        let right = All-get_or (Right (low + 1)) rs j nothing inside ordered.right in
        let few = length_part 126 (126 * p) rs in
        let small = ap (λ r. r.key) there in
        let also = ap (λ r. r.points) there in
        ap (λ bs. record_in bs i) (block-packed p (omega arith)) ∙ (record-read low p (chunk p) few i nothing (omega (arith, length-chunk p)) (omega (arith, small, right.within)) (omega (arith, also, right.fair)) ∙ there)

    pub records_of-packed : records_of bytes ≡ rs
    unfolding records_of
    records_of-packed =
        ap (λ n. map (record_at bytes) (counting 0 n)) record_count-packed ∙ map-counting (record_at bytes) nothing rs 0 (λ i inside. let here : 0 + i ≡ i = omega arith in ap (record_at bytes) here ∙ record-packed i inside)

    module _ (few : length rs ≤ 32760) where
      block-accepted : (p : ℕ) → p < blocks → BlockRight bytes p
      unfolding block_at
      block-accepted p inside =
          let room = length_part 126 (126 * p) rs in
          let same = block-packed p inside in
          record {
            checks = ap (λ bs. number (part 4 508 bs)) same ∙ (check-read low p (chunk p) room byte ∙ sym (ap check same));
            places = ap (λ bs. number (part 2 0 bs)) same ∙ place_read low p (chunk p) room (omega arith);
            sizes = ap (λ bs. get_or bs 3 0) same ∙ (size-at p ∙ sym size-packed);
            counts = ap₂ (λ k c. count_right k p c) block_count-packed (ap (λ bs. get_or bs 2 0) same ∙ (count-packed p ∙ length-chunk p)) ∙ count-right (length rs) p inside;
            zeros = ap (λ bs. all_zero (unused bs)) same ∙ unused-read low p (chunk p) room;
          }

      record-accepted : (j : ℕ) → j < length rs → RecordRight bytes j
      record-accepted j inside =
          let right = All-get_or (Right (low + 1)) rs j nothing inside ordered.right in
          let key = ap (λ r. r.key) (record-packed j inside) in
          let points = ap (λ r. r.points) (record-packed j inside) in
          record {
            below = omega (arith, key, right.below);
            within = omega (arith, key, right.within, size-packed);
            after = λ i next. let same = ap (λ k. (get_or rs k nothing).key) next in let before = ap (λ r. r.key) (record-packed i (omega arith)) in omega (arith, key, before, same, rise-get_d 0 rs i nothing ordered.rise (omega arith));
            fair = omega (arith, points, right.fair);
          }

      pub packed-accepted : Accepted bytes
      packed-accepted = record {
        least = omega (arith, length-packed);
        most = omega (arith, length-packed);
        whole = omega (arith, length-packed);
        blocks = λ p inside. right-block bytes p (block-accepted p (omega (arith, block_count-packed)));
        records = λ j inside. right-record bytes j (record-accepted j (omega (arith, record_count-packed)));
      }
