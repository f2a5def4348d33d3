-- The two round trips.
use Rattle.std.specs.Prelude.{◌≡◌, ℕ, cond, List, ◌++◌, length, drop, Ok, Err, Result, nat_le}
use Rattle.sheets.specs.Meaning.{Meaning}
use Rattle.blocks.specs.Bytes.{Bytes}
use Rattle.blocks.specs.Format.{meaning_of, written}
use Rattle.blocks.specs.Questions.{judged}
use Rattle.blocks.specs.declared.faults.ListFault.{ListFault}
use Rattle.list_reader.specs.declared.sheet.ListSheet.{ListSheet}
use Rattle.list_reader.specs.Sheets.{sheet_of}
use Rattle.list_writer.specs.Buffers.{write_judged}
use Rattle.list_writer.specs.declared.faults.CopyFault.{CopyFault}
use Rattle.list_writer.specs.declared.faults.CopyFault.TheVariants.{Write}
use Rattle.list_writer.specs.declared.faults.CopyFault.TheVariants.{List as Listed}
use Rattle.list_writer.specs.declared.faults.WriteFault.{WriteFault}
use Rattle.list_writer.specs.declared.faults.WriteFault.TheVariants.{Short}

-- The bytes of a sheet are an accepted list that reads as that sheet, and the only one.
pub record RoundTrip (m : Meaning) : Type 0 where
  pub accepted : judged (written m) ≡ Ok tt
  pub alike : meaning_of (written m) ≡ m
  pub only : (bytes : List ℕ) → Bytes bytes → judged bytes ≡ Ok tt → meaning_of bytes ≡ m → bytes ≡ written m

-- a copy asks what reading asks, and then whether the buffer is long enough
abbrev pub copy_asked : List ℕ → List ℕ → Result (Unit {0}) ListFault → Result ℕ CopyFault
copy_asked bytes buffer (Ok _) = cond (nat_le (length bytes) (length buffer)) (Ok (length bytes)) (Err (Write Short))
copy_asked bytes buffer (Err fault) = Err (Listed fault)

abbrev pub copy_judged : List ℕ → List ℕ → Result ℕ CopyFault
copy_judged bytes buffer = copy_asked bytes buffer (judged bytes)

-- the buffer then begins with the same bytes; on a refusal it is as it was
abbrev pub buffer_kept : List ℕ → List ℕ → Result ℕ CopyFault → List ℕ
buffer_kept bytes buffer (Ok _) = bytes ++ drop (length bytes) buffer
buffer_kept bytes buffer (Err _) = buffer

abbrev pub buffer_copied : List ℕ → List ℕ → List ℕ
buffer_copied bytes buffer = buffer_kept bytes buffer (copy_judged bytes buffer)

-- the buffer was long enough for the list, and what is read back of it answers alike; or the list was not written
abbrev pub ReadBack : Meaning → List ℕ → Result ListSheet WriteFault → Type 0
ReadBack m buffer (Ok s) = (write_judged m buffer ≡ Ok (length (written m))) × (sheet_of s ≡ m)
ReadBack m buffer (Err fault) = write_judged m buffer ≡ Err fault
