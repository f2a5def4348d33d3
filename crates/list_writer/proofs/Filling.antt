-- How a block is filled, record by record, and then sealed.
use Rattle.std.proofs.Common.{◌≡◌, ℕ, suc, ◌+◌, ◌-◌, ◌*◌, ◌/◌, ◌%◌, ◌^◌, ◌<◌, ◌≤◌, List, [], ◌∷◌, ◌++◌, length, take, drop, replicate, slice_index_or, slice_set, min, sym, refl, ap, ◌∙◌, ap₂, ⊎_elim, arith, take-add}
use Rattle.std.proofs.lemmas.Bool.{cases_lt}
use borrow.Rule.Slice.PartMut.{put_mid}
use Rattle.std.specs.Int.{to_le_bytes, w32}
use Rattle.std.specs.List.{flat_map}
use Rattle.std.proofs.lemmas.List.{append_assoc, append-nil, drop_all, drop_at, drop-drop, flat_map_more, length-append, length-drop, length-take-le, take_all, take_at}
use Rattle.blocks.specs.Bytes.{low_first}
use Rattle.blocks.specs.Format.{Record, check, content, record_bytes, sealed}
use Rattle.list_writer.proofs.Sealed.{bytes-content, check-limit}
use Rattle.list_writer.proofs.Sizes.{check-append, length-content, length-joined, length-record_bytes}

-- a list of which nothing is left after i
module _ {X : Type 0} (xs : List X) (i k : ℕ) (less : i ≤ k) (none : drop i xs ≡ []) where
  short : length xs ≤ i
  short = omega (arith, ap length none, length-drop i xs)

  pub take-past : take i xs ≡ take k xs
  take-past = take_all i xs short ∙ sym (take_all k xs (omega (arith, short)))

  pub drop-past : drop k xs ≡ []
  drop-past = drop_all k xs (omega (arith, short))

-- so many of a list as there are, but no more than k
module _ {X : Type 0} (xs : List X) (i k : ℕ) (least : i ≡ min (length xs) k) where
  pub take-least : take i xs ≡ take k xs
  take-least =
      ⊎_elim
      (λ (less : length xs < k). take_all i xs (omega (arith, least)) ∙ sym (take_all k xs (omega arith)))
      (λ (most : k ≤ length xs). let same : i ≡ k = omega (arith, least) in ap (λ n. take n xs) same)
      (cases_lt (length xs) k)

  pub drop-least : drop i xs ≡ drop k xs
  drop-least =
      ⊎_elim
      (λ (less : length xs < k). drop_all i xs (omega (arith, least)) ∙ sym (drop_all k xs (omega arith)))
      (λ (most : k ≤ length xs). let same : i ≡ k = omega (arith, least) in ap (λ n. drop n xs) same)
      (cases_lt (length xs) k)

-- and the next of those that are left
module _ {X : Type 0} (xs : List X) (i : ℕ) (x : X) (rest : List X) (left : drop i xs ≡ x ∷ rest) where
  pub take-next : take (i + 1) xs ≡ take i xs ++ x ∷ []
  take-next = take-add i 1 xs ∙ ap (λ ds. take i xs ++ take 1 ds) left

  pub drop-next : drop (i + 1) xs ≡ rest
  drop-next = sym (drop-drop 1 i xs) ∙ ap (drop 1) left

four-bytes : (x : ℕ) → to_le_bytes w32 x ≡ low_first 4 x
unfolding low_first
four-bytes x =
    let third : x / 65536 % 256 ≡ x / 256 / 256 % 256 = omega arith in
    let fourth : x / 16777216 % 256 ≡ x / 256 / 256 / 256 % 256 = omega arith in
    rw (third, fourth) refl

-- a block before it is sealed
abbrev pub begun : ℕ → ℕ → List Record → List ℕ
begun low place rs = content low place rs ++ replicate 4 0

-- what is written after n numbers and before others of the same count
middle : (w : ℕ) (xs old rest new : List ℕ) (n : ℕ) → length xs ≡ n → length old ≡ w → put_mid n w (xs ++ (old ++ rest)) new ≡ xs ++ (new ++ rest)
middle w xs old rest new n long wide =
    let gone : drop w (drop n (xs ++ (old ++ rest))) ≡ rest = ap (drop w) (drop_at xs (old ++ rest) n long) ∙ drop_at old rest w wide in
    ap₂ (λ a b. a ++ (new ++ b)) (take_at xs (old ++ rest) n long) gone

-- the head is four bytes
headed : (low place n k w : ℕ) (ys new : List ℕ) → put_mid (4 + k) w (low_first 2 place ++ (n ∷ (low ∷ ys))) new ≡ low_first 2 place ++ (n ∷ (low ∷ put_mid k w ys new))
unfolding low_first
headed low place n k w ys new =
    let bs : List ℕ = low_first 2 place ++ (n ∷ (low ∷ ys)) in
    ap₂ (λ a b. a ++ (new ++ drop w b)) (take-add 4 k bs) (sym (drop-drop k 4 bs))

module _ (low place : ℕ) (rs : List Record) (few : length rs < 126) where
  zeros-more : replicate {A = ℕ} (504 - 4 * length rs) 0 ≡ 0 ∷ (0 ∷ (0 ∷ (0 ∷ replicate (504 - 4 * (length rs + 1)) 0)))
  zeros-more = let more : 504 - 4 * length rs ≡ suc (suc (suc (suc (504 - 4 * (length rs + 1))))) = omega arith in ap (λ n. replicate n 0) more

  pub begun-more : (r : Record) → put_mid (4 + 4 * length rs) 4 (slice_set (begun low place rs) 2 (length rs + 1)) (record_bytes r) ≡ begun low place (rs ++ r ∷ [])
  unfolding content low_first
  begun-more r =
      let ys : List ℕ = flat_map record_bytes rs in
      let rest : List ℕ = replicate (504 - 4 * (length rs + 1)) 0 ++ replicate 4 0 in
      let area : (ys ++ replicate (504 - 4 * length rs) 0) ++ replicate 4 0 ≡ ys ++ (replicate 4 0 ++ rest) =
      append_assoc ys (replicate (504 - 4 * length rs) 0) (replicate 4 0) ∙ ap (λ zs. ys ++ (zs ++ replicate 4 0)) zeros-more in
      let ended : flat_map record_bytes rs ++ record_bytes r ≡ flat_map record_bytes (rs ++ r ∷ []) = flat_map_more record_bytes [] rs r in
      let more : length rs + 1 ≡ length (rs ++ r ∷ []) = omega (arith, length-append rs (r ∷ [])) in
      let long = length-joined record_bytes 4 length-record_bytes rs in
      let last : ys ++ (record_bytes r ++ rest) ≡ ((ys ++ record_bytes r) ++ replicate (504 - 4 * (length rs + 1)) 0) ++ replicate 4 0 =
      sym (append_assoc ys (record_bytes r) rest) ∙ sym (append_assoc (ys ++ record_bytes r) (replicate (504 - 4 * (length rs + 1)) 0) (replicate 4 0)) in
      headed low place (length rs + 1) (4 * length rs) 4 ((ys ++ replicate (504 - 4 * length rs) 0) ++ replicate 4 0) (record_bytes r) ∙ (ap (λ zs. low_first 2 place ++ ((length rs + 1) ∷ (low ∷ zs))) (ap (λ zs. put_mid (4 * length rs) 4 zs (record_bytes r)) area ∙ (middle 4 ys (replicate 4 0) rest (record_bytes r) (4 * length rs) long refl ∙ last)) ∙ ap₂ (λ n zs. low_first 2 place ++ (n ∷ (low ∷ ((zs ++ replicate (504 - 4 * n) 0) ++ replicate 4 0)))) more ended)

module _ (low place : ℕ) (rs : List Record) (few : length rs ≤ 126) where
  check-begun : check (begun low place rs) ≡ check (content low place rs)
  check-begun = check-append (content low place rs) (replicate 4 0) (length-content low place rs few)

  pub check-fits : low < 256 → check (begun low place rs) < 256 ^ 4
  check-fits byte = rw check-begun (check-limit (content low place rs) (bytes-content low place rs few byte))

  pub begun-sealed : put_mid 508 4 (begun low place rs) (low_first 4 (check (begun low place rs))) ≡ sealed (content low place rs)
  unfolding sealed
  begun-sealed =
      middle 4 (content low place rs) (replicate 4 0) [] (low_first 4 (check (begun low place rs))) 508 (length-content low place rs few) refl ∙ ap (λ zs. content low place rs ++ zs) (append-nil (low_first 4 (check (begun low place rs))) ∙ ap (low_first 4) check-begun)

-- what stands in a block after i of the records that are left
module _ (low place : ℕ) (rs : List Record) (i : ℕ) (block : List ℕ) (filled : block ≡ begun low place (take i rs)) (some : i ≤ length rs) where
  long : length (take i rs) ≡ i
  long = length-take-le i rs some

  pub filled-count : slice_index_or block 2 0 ≡ i
  unfolding content low_first
  filled-count = rw filled long

  pub filled-check : low < 256 → i ≤ 126 → check block < 256 ^ 4
  filled-check byte few = rw filled (check-fits low place (take i rs) (omega (arith, long)) byte)

  pub filled-more : (r : Record) (rest : List Record) (bytes : List ℕ) → i < 126 → drop i rs ≡ r ∷ rest → bytes ≡ record_bytes r → put_mid (4 + 4 * i) (8 + 4 * i - (4 + 4 * i)) (slice_set block 2 (slice_index_or block 2 0 + 1)) bytes ≡ begun low place (take (i + 1) rs)
  filled-more r rest bytes few left wrote =
      let width : 8 + 4 * i - (4 + 4 * i) ≡ 4 = omega arith in
      rw (filled-count, filled, wrote, width) (ap (λ n. put_mid (4 + 4 * n) 4 (slice_set (begun low place (take i rs)) 2 (n + 1)) (record_bytes r)) (sym long) ∙ (begun-more low place (take i rs) (omega (arith, long)) r ∙ ap (begun low place) (sym (take-next rs i r rest left))))

  pub filled-sealed : (bytes : List ℕ) → i ≤ 126 → take i rs ≡ take 126 rs → bytes ≡ to_le_bytes w32 (check block) → put_mid 508 4 block bytes ≡ sealed (content low place (take 126 rs))
  filled-sealed bytes few all wrote =
      let seal : bytes ≡ low_first 4 (check (begun low place (take i rs))) = wrote ∙ (four-bytes (check block) ∙ ap (λ bs. low_first 4 (check bs)) filled) in
      ap₂ (put_mid 508 4) filled seal ∙ (begun-sealed low place (take i rs) (omega (arith, long)) ∙ ap (λ xs. sealed (content low place xs)) all)
