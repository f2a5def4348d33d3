-- Block lists: the bytes of a sheet, and the sheet that bytes hold.
use Rattle.std.specs.Prelude.{ℕ, ◌+◌, ◌-◌, ◌*◌, ◌/◌, ◌%◌, min, max, Bool, cond, ◌&&◌, List, [], ◌∷◌, ◌++◌, map, length, replicate, is_some, Some, None, filter, Option, ◌==◌, nat_lt, slice_index}
use Rattle.std.specs.List.{flat_map}
use Rattle.candidates.specs.Sets.{counting}
use Rattle.sheets.specs.Meaning.{Meaning}
use Rattle.sheets.specs.Weights.{total}
use Rattle.blocks.specs.Bytes.{low_first, number, part}

-- The record of a pair u < v: its key u + 256 v, which is its first two bytes, low byte first, and its points.
-- Pairs by v and then by u are keys that rise.
pub record Record : Type 0 where
  pub key : ℕ
  pub points : ℕ

-- whether the pair of a key has a record: only pairs that fit do
unfoldable pub has_record : Meaning → ℕ → Bool
has_record m key = nat_lt (key % 256) (key / 256) && m.fit (key % 256) (key / 256)

unfoldable pub record_of : Meaning → ℕ → Record
record_of m key = record { key = key; points = m.points (key % 256) (key / 256) }

-- the records of a sheet from a key on, and all of them
unfoldable pub records_from : Meaning → ℕ → List Record
records_from m key = map (record_of m) (filter (has_record m) (counting key (256 * m.size - key)))

abbrev pub records : Meaning → List Record
records m = records_from m 0

unfoldable pub record_bytes : Record → List ℕ
record_bytes r = low_first 2 r.key ++ low_first 2 r.points

-- bytes 0 to 507 of the block at a place: the place, the count, n − 1, the records, zeros
unfoldable pub content : ℕ → ℕ → List Record → List ℕ
content low place rs =
    low_first 2 place ++ (length rs ∷ (low ∷ (flat_map record_bytes rs ++ replicate (504 - 4 * length rs) 0)))

-- the sum of (k + 1) × byte k for the n places k from i on
unfoldable pub weighed : List ℕ → ℕ → ℕ → ℕ
weighed bs i n = total (λ k. (k + 1) * slice_index bs k) (counting i n)

-- the check of a block: the sum of (i + 1) × byte i for i from 0 to 507
abbrev pub check : List ℕ → ℕ
check bs = weighed bs 0 508

-- with the check in bytes 508 to 511
unfoldable pub sealed : List ℕ → List ℕ
sealed bs = bs ++ low_first 4 (check bs)

-- the block at a place: it has the records that the blocks before it leave, 126 at most
unfoldable pub block_at : ℕ → List Record → ℕ → List ℕ
block_at low rs place = sealed (content low place (part 126 (126 * place) rs))

-- as few blocks as possible, at least one
abbrev pub blocks_for : ℕ → ℕ
blocks_for count = max 1 ((count + 125) / 126)

unfoldable pub packed : ℕ → List Record → List ℕ
packed low rs = flat_map (block_at low rs) (counting 0 (blocks_for (length rs)))

-- the bytes of a sheet
unfoldable pub written : Meaning → List ℕ
written m = packed (m.size - 1) (records m)

-- the bytes of the block at a place
abbrev pub block : List ℕ → ℕ → List ℕ
block bytes place = part 512 (512 * place) bytes

-- record i of a block
unfoldable pub record_in : List ℕ → ℕ → Record
record_in bs i = record { key = number (part 2 (4 + 4 * i) bs); points = number (part 2 (6 + 4 * i) bs) }

-- record j of a list: all blocks but the last have 126
unfoldable pub record_at : List ℕ → ℕ → Record
record_at bytes j = record_in (block bytes (j / 126)) (j % 126)

abbrev pub block_count : List ℕ → ℕ
block_count bytes = length bytes / 512

-- how many records a list has: 126 for each block but the last, and the last block's count
unfoldable pub record_count : List ℕ → ℕ
record_count bytes = 126 * (block_count bytes - 1) + slice_index bytes (512 * (block_count bytes - 1) + 2)

unfoldable pub records_of : List ℕ → List Record
records_of bytes = map (record_at bytes) (counting 0 (record_count bytes))

-- n of a list: byte 3 is n − 1
abbrev pub size_of : List ℕ → ℕ
size_of bytes = slice_index bytes 3 + 1

-- the points in the record with a key, if there is one
unfoldable pub look : ℕ → List Record → Option ℕ
look key [] = None
look key (r ∷ rs) = cond (r.key == key) (Some r.points) (look key rs)

-- points that a record may have
abbrev pub fair : Option ℕ → Option ℕ
fair None = None
fair (Some points) = cond (nat_lt points 65535) (Some points) None

-- the points of two, where points are known by key: two different candidates below n fit if theirs are
unfoldable pub known : ℕ → (ℕ → Option ℕ) → ℕ → ℕ → Option ℕ
known n points u v =
    cond (nat_lt (min u v) (max u v) && nat_lt (max u v) n) (fair (points (min u v + 256 * max u v))) None

abbrev pub or_zero : Option ℕ → ℕ
or_zero None = 0
or_zero (Some points) = points

abbrev pub sheet_by : ℕ → (ℕ → Option ℕ) → Meaning
sheet_by n points = record { size = n; fit = λ u v. is_some (known n points u v); points = λ u v. or_zero (known n points u v) }

-- the sheet that the bytes of a list hold
unfoldable pub meaning_of : List ℕ → Meaning
meaning_of bytes = sheet_by (size_of bytes) (λ key. look key (records_of bytes))
