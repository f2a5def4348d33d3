-- A written block, read again: every question about it is answered yes, and its records are those that were written.
use Rattle.std.proofs.Common.{◌≡◌, ℕ, zero, suc, ◌+◌, ◌-◌, ◌*◌, ◌^◌, ◌<◌, ◌≤◌, true, List, [], ◌∷◌, ◌++◌, length, get_or, take, drop, replicate, sym, refl, ap, ◌∙◌, ap₂, ⊎_elim, mul-le-mul, arith}
use Rattle.std.specs.List.{flat_map}
use Rattle.std.proofs.ByRecursion.{All-append, All-get_or}
use Rattle.std.proofs.lemmas.List.{append_assoc, drop_at, drop-drop, get_or_past, length-replicate, take_all, take_at}
use Rattle.std.proofs.lemmas.Bool.{cases_lt}
use Rattle.blocks.specs.Bytes.{low_first, number, part, all_zero, Bytes}
use Rattle.blocks.specs.Format.{Record, record_bytes, content, weighed, check, sealed, record_in}
use Rattle.blocks.specs.Questions.{unused}
use Rattle.blocks.proofs.Numbers.{bytes-low_first, length-low_first, number-low_first}
use Rattle.list_writer.proofs.Chunks.{key-part, part-joined, points-part, record-part}
use Rattle.list_writer.proofs.Sizes.{check-append, length-content, length-joined, length-record_bytes}

pub bytes-get_d : (bs : List ℕ) → Bytes bs → (i : ℕ) → get_or bs i 0 < 256
bytes-get_d bs all i =
    ⊎_elim
    (λ (inside : i < length bs). All-get_or (λ b. b < 256) bs i 0 inside all)
    (λ (past : length bs ≤ i). omega (arith, get_or_past bs i 0 past))
    (cases_lt i (length bs))

weighed-limit : (bs : List ℕ) → ((i : ℕ) → get_or bs i 0 < 256) → (i n : ℕ) → i + n ≤ 508 → weighed bs i n ≤ 129540 * n
unfolding weighed
weighed-limit bs each i zero top = omega arith
weighed-limit bs each i (suc n) top =
    let low : i + 1 ≤ 508 = omega arith in
    let byte : get_or bs i 0 ≤ 255 = omega (arith, each i) in
    let first : (i + 1) * get_or bs i 0 ≤ 508 * 255 = mul-le-mul low byte in
    omega (arith, first, weighed-limit bs each (suc i) n (omega arith))

-- a check fits its four bytes
pub check-limit : (bs : List ℕ) → Bytes bs → check bs < 256 ^ 4
check-limit bs all = omega (arith, weighed-limit bs (bytes-get_d bs all) 0 508 (omega arith))

bytes-joined : {X : Type 0} (f : X → List ℕ) → ((x : X) → Bytes (f x)) → (xs : List X) → Bytes (flat_map f xs)
bytes-joined f each [] = tt
bytes-joined f each (x ∷ xs) = All-append (λ b. b < 256) (f x) (flat_map f xs) (each x) (bytes-joined f each xs)

bytes-zeros : (n : ℕ) → Bytes (replicate n 0)
bytes-zeros zero = tt
bytes-zeros (suc n) = (omega arith, bytes-zeros n)

all_zero-zeros : (n : ℕ) → all_zero (replicate n 0) ≡ true
unfolding all_zero
all_zero-zeros zero = refl
all_zero-zeros (suc n) = all_zero-zeros n

bytes-record_bytes : (r : Record) → Bytes (record_bytes r)
unfolding record_bytes
bytes-record_bytes r = All-append (λ b. b < 256) (low_first 2 r.key) (low_first 2 r.points) (bytes-low_first 2 r.key) (bytes-low_first 2 r.points)

module _ (low place : ℕ) (rs : List Record) (few : length rs ≤ 126) where
  abbrev pub written-block : List ℕ
  written-block = sealed (content low place rs)

  abbrev zeros : List ℕ
  zeros = replicate (504 - 4 * length rs) 0

  abbrev seal : List ℕ
  seal = low_first 4 (check (content low place rs))

  pub bytes-content : low < 256 → Bytes (content low place rs)
  unfolding content low_first
  bytes-content byte =
      (omega arith, (omega arith, (omega arith, (byte, All-append (λ b. b < 256) (flat_map record_bytes rs) zeros (bytes-joined record_bytes bytes-record_bytes rs) (bytes-zeros (504 - 4 * length rs))))))

  pub count-read : get_or written-block 2 0 ≡ length rs
  unfolding sealed content low_first
  count-read = refl

  pub size-read : get_or written-block 3 0 ≡ low
  unfolding sealed content low_first
  size-read = refl

  pub place_read : place < 65536 → number (part 2 0 written-block) ≡ place
  unfolding sealed content low_first
  place_read small = number-low_first 2 place small

  check-same : check written-block ≡ check (content low place rs)
  unfolding sealed
  check-same = check-append (content low place rs) seal (length-content low place rs few)

  pub check-read : low < 256 → number (part 4 508 written-block) ≡ check written-block
  unfolding sealed
  check-read byte =
      let held : part 4 508 written-block ≡ seal =
      ap (take 4) (drop_at (content low place rs) seal 508 (length-content low place rs few)) ∙ take_all 4 seal (omega (arith, length-low_first 4 (check (content low place rs)))) in
      ap number held ∙ (number-low_first 4 (check (content low place rs)) (check-limit (content low place rs) (bytes-content byte)) ∙ sym check-same)

  -- behind the four bytes of the head: records, zeros, check
  area : drop 4 written-block ≡ flat_map record_bytes rs ++ (zeros ++ seal)
  unfolding sealed content low_first
  area = append_assoc (flat_map record_bytes rs) zeros seal

  pub unused-read : all_zero (unused written-block) ≡ true
  unused-read =
      let long = length-joined record_bytes 4 length-record_bytes rs in
      let behind : drop (4 + 4 * length rs) written-block ≡ zeros ++ seal =
      sym (drop-drop (4 * length rs) 4 written-block) ∙ (ap (drop (4 * length rs)) area ∙ drop_at (flat_map record_bytes rs) (zeros ++ seal) (4 * length rs) long) in
      let none : part (508 - (4 + 4 * length rs)) (4 + 4 * length rs) written-block ≡ zeros =
      ap (take (508 - (4 + 4 * length rs))) behind ∙ take_at zeros seal (508 - (4 + 4 * length rs)) (omega (arith, length-zeros)) in
      ap (λ n. all_zero (part (508 - (4 + 4 * n)) (4 + 4 * n) written-block)) count-read ∙ (ap all_zero none ∙ all_zero-zeros (504 - 4 * length rs))
    where
      length-zeros : length zeros ≡ 504 - 4 * length rs
      length-zeros = length-replicate (504 - 4 * length rs) 0

  pub record-read : (i : ℕ) (d : Record) → i < length rs → (get_or rs i d).key < 65536 → (get_or rs i d).points < 65536 → record_in written-block i ≡ get_or rs i d
  unfolding record_in record_bytes low_first
  record-read i d inside small also =
      let r : Record = get_or rs i d in
      let bytes : part 4 (4 + 4 * i) written-block ≡ record_bytes r =
      record-part written-block i ∙ (ap (part 4 (4 * i)) area ∙ part-joined record_bytes 4 length-record_bytes rs (zeros ++ seal) i d inside) in
      let key : part 2 (4 + 4 * i) written-block ≡ low_first 2 r.key = key-part written-block i ∙ ap (part 2 0) bytes in
      let points : part 2 (6 + 4 * i) written-block ≡ low_first 2 r.points = points-part written-block i ∙ ap (part 2 2) bytes in
      ap₂ (λ k p. record { key = k; points = p }) (ap number key ∙ number-low_first 2 r.key small) (ap number points ∙ number-low_first 2 r.points also)
