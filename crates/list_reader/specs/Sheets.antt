-- What a list sheet means.
use Rattle.std.proofs.Common.{arith}
use Rattle.sheets.specs.Meaning.{Lawful, Meaning}
use Rattle.blocks.specs.Format.{look, meaning_of, records_of, size_of}
use Rattle.list_reader.specs.Laws.{sheet_by-lawful}
use Rattle.list_reader.specs.declared.sheet.ListSheet.{ListSheet}

-- what its bytes hold
abbrev pub sheet_of : ListSheet → Meaning
sheet_of s = meaning_of s.records.bytes.now

pub list_lawful : (s : ListSheet) → Lawful (sheet_of s)
unfolding meaning_of
list_lawful s = sheet_by-lawful (size_of s.records.bytes.now) (λ key. look key (records_of s.records.bytes.now)) (omega arith) s.small
