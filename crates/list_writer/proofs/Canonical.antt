-- An accepted list is the only one with its records.
use Rattle.std.proofs.Common.{◌≡◌, ℕ, zero, suc, ◌+◌, ◌-◌, ◌*◌, ◌/◌, ◌%◌, ◌<◌, ◌≤◌, min, true, eqb, List, [], ◌∷◌, ◌++◌, map, length, get_or, take, drop, replicate, sym, refl, ap, ◌∙◌, ap₂, ⊎_elim, arith, take-add}
use Rattle.std.specs.List.{flat_map, AllByRecursion}
use Rattle.std.proofs.ByRecursion.{All-drop, All-map, All-take}
use Rattle.std.proofs.lemmas.List.{drop-drop, drop-map, length-drop, length-map, length-take, take_all, take-append-drop, take-map}
use Rattle.std.proofs.lemmas.List.Folds.{flat_map-map}
use Rattle.std.proofs.lemmas.Bool.{and_parts, cases_lt, eqb-true}
use Rattle.std.proofs.lemmas.Bool.Decides.{nat_tests}
use Rattle.candidates.specs.Sets.{counting}
use Rattle.candidates.proofs.Sets.{length-counting}
use Rattle.blocks.specs.Bytes.{low_first, number, part, all_zero, Bytes}
use Rattle.blocks.specs.Format.{Record, block, block_at, block_count, blocks_for, check, content, packed, record_at, record_bytes, record_count, record_in, records_of, sealed, size_of}
use Rattle.blocks.proofs.Accepted.{Accepted, BlockRight, block-right, record-right}
use Rattle.blocks.proofs.Numbers.{low_first-number}
use Rattle.list_writer.proofs.Chunks.{get_d_part, joined-parts, joined_same, key-part, points-part, record-part}
use Rattle.list_writer.proofs.Ordered.{Ordered, Right, rise-map}
use Rattle.list_writer.proofs.Sizes.{check-append}

zeros-from-all_zero : (bs : List ℕ) → all_zero bs ≡ true → bs ≡ replicate (length bs) 0
unfolding all_zero
zeros-from-all_zero [] all = refl
zeros-from-all_zero (b ∷ bs) all =
    let both = and_parts (eqb b 0) (all_zero bs) all in
    ap₂ ◌∷◌ (eqb-true b 0 both.0) (zeros-from-all_zero bs both.1)

-- bytes are what their number is put as
put-again : (bs : List ℕ) (w : ℕ) → Bytes bs → length bs ≡ w → low_first w (number bs) ≡ bs
put-again bs w all long = ap (λ n. low_first n (number bs)) (sym long) ∙ low_first-number bs all

drop-counting : (a n p : ℕ) → drop p (counting a n) ≡ counting (a + p) (n - p)
drop-counting a n zero =
    let here : a ≡ a + 0 = omega arith in let whole : n ≡ n - 0 = omega arith in ap₂ counting here whole
drop-counting a zero (suc p) = let none : 0 - suc p ≡ 0 = omega arith in sym (ap (counting (a + suc p)) none)
drop-counting a (suc n) (suc p) =
    let here : suc a + p ≡ a + suc p = omega arith in
    let rest : n - p ≡ suc n - suc p = omega arith in
    drop-counting (suc a) n p ∙ ap₂ counting here rest

take_counting : (a n w : ℕ) → take w (counting a n) ≡ counting a (min w n)
take_counting a n zero = let none : min 0 n ≡ 0 = omega arith in sym (ap (counting a) none)
take_counting a zero (suc w) = let none : min (suc w) 0 ≡ 0 = omega arith in sym (ap (counting a) none)
take_counting a (suc n) (suc w) =
    let more : suc (min w n) ≡ min (suc w) (suc n) = omega arith in
    ap (λ ks. a ∷ ks) (take_counting (suc a) n w) ∙ ap (counting a) more

counting-part : (n w p : ℕ) → part w p (counting 0 n) ≡ counting p (min w (n - p))
counting-part n w p =
    let here : 0 + p ≡ p = omega arith in
    ap (take w) (drop-counting 0 n p) ∙ (take_counting (0 + p) (n - p) w ∙ ap (λ a. counting a (min w (n - p))) here)

head-split : (bs : List ℕ) → 4 ≤ length bs → take 2 bs ++ (get_or bs 2 0 ∷ (get_or bs 3 0 ∷ part 504 4 bs)) ≡ take 508 bs
head-split [] long = absurd (omega arith)
head-split (a ∷ []) long = absurd (omega arith)
head-split (a ∷ (b ∷ [])) long = absurd (omega arith)
head-split (a ∷ (b ∷ (c ∷ []))) long = absurd (omega arith)
head-split (a ∷ (b ∷ (c ∷ (d ∷ bs)))) long = refl

all-counting : (P : ℕ → Type 0) (a n : ℕ) → ((i : ℕ) → a ≤ i → i < a + n → P i) → AllByRecursion P (counting a n)
all-counting P a zero each = tt
all-counting P a (suc n) each =
    (each a (omega arith) (omega arith), all-counting P (suc a) n (λ i low high. each i (omega arith) (omega arith)))

map-shift : {X : Type 0} (f g : ℕ → X) (a b n : ℕ) → ((i : ℕ) → i < n → f (a + i) ≡ g (b + i)) → map f (counting a n) ≡ map g (counting b n)
map-shift f g a b zero each = refl
map-shift f g a b (suc n) each =
    let here : a ≡ a + 0 = omega arith in
    let there : b + 0 ≡ b = omega arith in
    ap₂ ◌∷◌ (ap f here ∙ (each 0 (omega arith) ∙ ap g there)) (map-shift f g (suc a) (suc b) n (λ i inside. let one : suc a + i ≡ a + suc i = omega arith in let two : b + suc i ≡ suc b + i = omega arith in ap f one ∙ (each (suc i) (omega arith) ∙ ap g two)))

-- one block, written again from its records
module _ (bs : List ℕ) (place count : ℕ) (all : Bytes bs) (long : length bs ≡ 512) (few : count ≤ 126) where
  abbrev readings : List Record
  readings = map (record_in bs) (counting 0 count)

  length-readings : length readings ≡ count
  length-readings = length-map (counting 0 count) (record_in bs) ∙ length-counting 0 count

  bytes-part : (w p : ℕ) → Bytes (part w p bs)
  bytes-part w p = All-take (λ b. b < 256) w (drop p bs) (All-drop (λ b. b < 256) p bs all)

  length-within : (w p : ℕ) → p + w ≤ 512 → length (part w p bs) ≡ w
  length-within w p inside = omega (arith, length-take w (drop p bs), length-drop p bs)

  record-again : (i : ℕ) → i < 126 → record_bytes (record_in bs i) ≡ part 4 (4 * i) (drop 4 bs)
  unfolding record_in record_bytes
  record-again i inside =
      let four : List ℕ = part 4 (4 + 4 * i) bs in
      let key = put-again (part 2 (4 + 4 * i) bs) 2 (bytes-part 2 (4 + 4 * i)) (length-within 2 (4 + 4 * i) (omega arith)) ∙ key-part bs i in
      let points = put-again (part 2 (6 + 4 * i) bs) 2 (bytes-part 2 (6 + 4 * i)) (length-within 2 (6 + 4 * i) (omega arith)) ∙ points-part bs i in
      ap₂ ◌++◌ key points ∙ (sym (take-add 2 2 four) ∙ (take_all 4 four (omega (arith, length-take 4 (drop (4 + 4 * i) bs))) ∙ record-part bs i))

  records-again : flat_map record_bytes readings ≡ take (4 * count) (drop 4 bs)
  records-again =
      flat_map-map record_bytes (record_in bs) (counting 0 count) ∙ (joined_same (λ i. record_bytes (record_in bs i)) (λ i. part 4 (4 * i) (drop 4 bs)) 0 count (λ i _ inside. record-again i (omega arith)) ∙ joined-parts 4 (drop 4 bs) 0 count)

  module _ (empty : all_zero (part (508 - (4 + 4 * count)) (4 + 4 * count) bs) ≡ true) where
    zeros-again : replicate (504 - 4 * count) 0 ≡ take (504 - 4 * count) (drop (4 * count) (drop 4 bs))
    zeros-again =
        let rest : List ℕ = part (508 - (4 + 4 * count)) (4 + 4 * count) bs in
        let width : 508 - (4 + 4 * count) ≡ 504 - 4 * count = omega arith in
        let size : length rest ≡ 504 - 4 * count = length-within (508 - (4 + 4 * count)) (4 + 4 * count) (omega arith) ∙ width in
        ap (λ n. replicate n 0) (sym size) ∙ (sym (zeros-from-all_zero rest empty) ∙ (ap (λ n. take n (drop (4 + 4 * count) bs)) width ∙ ap (take (504 - 4 * count)) (sym (drop-drop (4 * count) 4 bs))))

    area-again : flat_map record_bytes readings ++ replicate (504 - 4 * length readings) 0 ≡ part 504 4 bs
    area-again =
        let whole : 4 * count + (504 - 4 * count) ≡ 504 = omega arith in
        ap₂ (λ xs n. xs ++ replicate (504 - 4 * n) 0) records-again length-readings ∙ (ap (λ zs. take (4 * count) (drop 4 bs) ++ zs) zeros-again ∙ (sym (take-add (4 * count) (504 - 4 * count) (drop 4 bs)) ∙ ap (λ n. take n (drop 4 bs)) whole))

    module _ (here : number (part 2 0 bs) ≡ place) (holds : get_or bs 2 0 ≡ count) where
      content-again : content (get_or bs 3 0) place readings ≡ take 508 bs
      unfolding content
      content-again =
          let first : low_first 2 place ≡ take 2 bs = ap (low_first 2) (sym here) ∙ put-again (part 2 0 bs) 2 (bytes-part 2 0) (length-within 2 0 (omega arith)) in
          let second : length readings ≡ get_or bs 2 0 = length-readings ∙ sym holds in
          ap₂ (λ xs n. xs ++ (n ∷ (get_or bs 3 0 ∷ (flat_map record_bytes readings ++ replicate (504 - 4 * length readings) 0)))) first second ∙ (ap (λ zs. take 2 bs ++ (get_or bs 2 0 ∷ (get_or bs 3 0 ∷ zs))) area-again ∙ head-split bs (omega arith))

      pub block-again : number (part 4 508 bs) ≡ check bs → sealed (content (get_or bs 3 0) place readings) ≡ bs
      unfolding sealed
      block-again right =
          let body : List ℕ = take 508 bs in
          let last : part 4 508 bs ≡ drop 508 bs = take_all 4 (drop 508 bs) (omega (arith, length-drop 508 bs)) in
          let same : check body ≡ check bs =
          sym (check-append body (drop 508 bs) (omega (arith, length-take 508 bs))) ∙ ap check (take-append-drop 508 bs) in
          ap (λ cs. cs ++ low_first 4 (check cs)) content-again ∙ (ap (λ n. body ++ low_first 4 n) (same ∙ sym right) ∙ (ap (λ zs. body ++ zs) (put-again (part 4 508 bs) 4 (bytes-part 4 508) (length-within 4 508 (omega arith)) ∙ last) ∙ take-append-drop 508 bs))

module _ (bytes : List ℕ) (accepted : Accepted bytes) (all : Bytes bytes) where
  abbrev blocks : ℕ
  blocks = block_count bytes

  abbrev count_at : ℕ → ℕ
  count_at p = get_or (block bytes p) 2 0

  length-bytes : length bytes ≡ 512 * blocks
  length-bytes = omega (arith, accepted.whole)

  some-blocks : 1 ≤ blocks
  some-blocks = omega (arith, accepted.least)

  right : (p : ℕ) → p < blocks → BlockRight bytes p
  right p inside = block-right bytes p (accepted.blocks p inside)

  count-full : (p : ℕ) → suc p < blocks → count_at p ≡ 126
  count-full p follows = let counts = (right p (omega arith)).counts in grind (arith, nat_tests)

  count-few : (p : ℕ) → p < blocks → count_at p ≤ 126
  count-few p inside = let counts = (right p inside).counts in grind (arith, nat_tests)

  count-some : (p : ℕ) → 0 < p → p < blocks → 1 ≤ count_at p
  count-some p later inside = let counts = (right p inside).counts in grind (arith, nat_tests)

  record_count-is : record_count bytes ≡ 126 * (blocks - 1) + count_at (blocks - 1)
  unfolding record_count
  record_count-is = ap (λ c. 126 * (blocks - 1) + c) (sym (get_d_part 512 (512 * (blocks - 1)) bytes 2 0 (omega arith)))

  chunk_count : (p : ℕ) → p < blocks → min 126 (record_count bytes - 126 * p) ≡ count_at p
  chunk_count p inside =
      ⊎_elim
      (λ (follows : suc p < blocks). omega (arith, count-full p follows, record_count-is))
      (λ (last : blocks ≤ suc p). let same : blocks - 1 ≡ p = omega arith in omega (arith, ap count_at same, count-few p inside, record_count-is))
      (cases_lt (suc p) blocks)

  chunk-again : (p : ℕ) → p < blocks → part 126 (126 * p) (records_of bytes) ≡ map (record_in (block bytes p)) (counting 0 (count_at p))
  unfolding records_of record_at
  chunk-again p inside =
      let n : ℕ = record_count bytes in
      ap (take 126) (drop-map (record_at bytes) (126 * p) (counting 0 n)) ∙ (take-map (record_at bytes) 126 (drop (126 * p) (counting 0 n)) ∙ (ap (map (record_at bytes)) (counting-part n 126 (126 * p) ∙ ap (counting (126 * p)) (chunk_count p inside)) ∙ map-shift (record_at bytes) (record_in (block bytes p)) (126 * p) 0 (count_at p) (λ i within.
      let few = count-few p inside in
      let one : (126 * p + i) / 126 ≡ p = omega arith in
      let two : (126 * p + i) % 126 ≡ 0 + i = omega arith in
      ap₂ (λ q j. record_in (block bytes q) j) one two)))

  blocks-again : blocks_for (record_count bytes) ≡ blocks
  blocks-again =
      ⊎_elim
      (λ (several : 1 < blocks). omega (arith, record_count-is, count-few (blocks - 1) (omega arith), count-some (blocks - 1) (omega arith) (omega arith)))
      (λ (alone : blocks ≤ 1). omega (arith, record_count-is, some-blocks, count-few (blocks - 1) (omega (arith, some-blocks))))
      (cases_lt 1 blocks)

  at_again : (p : ℕ) → p < blocks → block_at (get_or bytes 3 0) (records_of bytes) p ≡ block bytes p
  unfolding block_at
  at_again p inside =
      let bs : List ℕ = block bytes p in
      let r = right p inside in
      let long : length bs ≡ 512 = omega (arith, length-take 512 (drop (512 * p) bytes), length-drop (512 * p) bytes, length-bytes) in
      let these = All-take (λ b. b < 256) 512 (drop (512 * p) bytes) (All-drop (λ b. b < 256) (512 * p) bytes all) in
      ap₂ (λ low cs. sealed (content low p cs)) (sym r.sizes) (chunk-again p inside) ∙ block-again bs p (count_at p) these long (count-few p inside) r.zeros r.places refl r.checks

  pub packed-again : packed (get_or bytes 3 0) (records_of bytes) ≡ bytes
  unfolding packed records_of
  packed-again =
      let low : ℕ = get_or bytes 3 0 in
      let rs : List Record = records_of bytes in
      let count : length rs ≡ record_count bytes = length-map (counting 0 (record_count bytes)) (record_at bytes) ∙ length-counting 0 (record_count bytes) in
      ap (λ n. flat_map (block_at low rs) (counting 0 n)) (ap blocks_for count ∙ blocks-again) ∙ (joined_same (block_at low rs) (λ p. part 512 (512 * p) bytes) 0 blocks (λ p _ inside. at_again p (omega arith)) ∙ (joined-parts 512 bytes 0 blocks ∙ take_all (512 * blocks) bytes (omega (arith, length-bytes))))

  pub accepted-ordered : Ordered (size_of bytes) (records_of bytes)
  unfolding records_of
  accepted-ordered = record {
    rise = rise-map (record_at bytes) 0 0 (record_count bytes) (λ _. omega arith) (λ i _ inside. (record-right bytes (suc i) (accepted.records (suc i) (omega arith))).after i refl);
    right = All-map (Right (size_of bytes)) (record_at bytes) (counting 0 (record_count bytes)) (all-counting (λ j. Right (size_of bytes) (record_at bytes j)) 0 (record_count bytes) (λ j _ inside. let r = record-right bytes j (accepted.records j (omega arith)) in record { below = r.below; within = r.within; fair = r.fair }));
  }
