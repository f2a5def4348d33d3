-- The questions put to a list, in their order: the first no decides.
use Rattle.std.specs.Prelude.{ℕ, ◌+◌, ◌-◌, ◌*◌, ◌/◌, ◌%◌, Bool, cond, ◌&&◌, ◌||◌, List, [], ◌∷◌, ◌++◌, map, length, Result, ◌==◌, nat_le, nat_lt, slice_index}
use Rattle.std.specs.List.{flat_map}
use Rattle.candidates.specs.Sets.{counting}
use Rattle.sheets.specs.Refusals.{first_no}
use Rattle.blocks.specs.declared.faults.BlockFault.{BlockFault}
use Rattle.blocks.specs.declared.faults.BlockFault.TheVariants.{Check, Place, Count, Unused}
use Rattle.blocks.specs.declared.faults.ListFault.{ListFault}
use Rattle.blocks.specs.declared.faults.ListFault.TheVariants.{Length, Size, Pair, Order, Points, Block}
use Rattle.blocks.specs.declared.faults.ProgramFault.{ProgramFault}
use Rattle.blocks.specs.declared.faults.ProgramFault.TheVariants.{Long}
use Rattle.blocks.specs.declared.faults.ProgramFault.TheVariants.{List as Listed}
use Rattle.blocks.specs.Bytes.{number, part, all_zero}
use Rattle.blocks.specs.Format.{block, block_count, check, record_at, record_count, size_of}

-- questions with the fault that a no is
abbrev pub Asked : Type 0 → Type 0
Asked Fault = List (Bool × Fault)

-- the same questions, put by the layer above
abbrev pub above : {A B : Type 0} → (A → B) → Asked A → Asked B
above hold qs = map (λ q. (q.0, hold q.1)) qs

-- check right? Place right?
abbrev pub seal_questions : ℕ → List ℕ → Asked BlockFault
seal_questions place bs =
    ((number (part 4 508 bs) == check bs), Check place) ∷ (((number (part 2 0 bs) == place), Place place) ∷ [])

-- a count of 126 if a block follows, 1 to 126 in the last of several, 0 to 126 alone
abbrev pub count_right : ℕ → ℕ → ℕ → Bool
count_right blocks place count =
    cond (nat_lt (place + 1) blocks) (count == 126) ((place == 0 || nat_le 1 count) && nat_le count 126)

-- the bytes of a block after its records, up to the check
abbrev pub unused : List ℕ → List ℕ
unused bs = part (508 - (4 + 4 * slice_index bs 2)) (4 + 4 * slice_index bs 2) bs

-- count right? Unused record bytes zero?
abbrev pub fill_questions : ℕ → ℕ → List ℕ → Asked BlockFault
fill_questions blocks place bs =
    (count_right blocks place (slice_index bs 2), Count place) ∷ ((all_zero (unused bs), Unused place) ∷ [])

-- those of the block at a place of a list; between them, is byte 3 as in block 0?
unfoldable pub block_questions : List ℕ → ℕ → Asked ListFault
block_questions bytes place =
    above Block (seal_questions place (block bytes place)) ++ (((slice_index (block bytes place) 3 == slice_index bytes 3), Size place) ∷ above Block (fill_questions (block_count bytes) place (block bytes place)))

-- u < v < n? Pair after the one before? Points below 65,535?
unfoldable pub record_questions : List ℕ → ℕ → Asked ListFault
record_questions bytes j =
    let key : ℕ = (record_at bytes j).key in
    (nat_lt (key % 256) (key / 256) && nat_lt (key / 256) (size_of bytes), Pair (j / 126) (j % 126)) ∷ ((j == 0 || nat_lt (record_at bytes (j - 1)).key key, Order (j / 126) (j % 126)) ∷ ((nat_lt (record_at bytes j).points 65535, Points (j / 126) (j % 126)) ∷ []))

-- 512 to 133,120 bytes in whole blocks? Then block by block, and then record by record.
unfoldable pub list_questions : List ℕ → Asked ListFault
list_questions bytes =
    (nat_le 512 (length bytes) && (nat_le (length bytes) 133120 && length bytes % 512 == 0), Length) ∷ (flat_map (block_questions bytes) (counting 0 (block_count bytes)) ++ flat_map (record_questions bytes) (counting 0 (record_count bytes)))

unfoldable pub judged : List ℕ → Result (Unit {0}) ListFault
judged bytes = first_no (list_questions bytes)

-- at most 65,536 bytes? Then the questions put to the list.
unfoldable pub program_judged : List ℕ → Result (Unit {0}) ProgramFault
program_judged bytes = first_no ((nat_le (length bytes) 65536, Long) ∷ above Listed (list_questions bytes))
