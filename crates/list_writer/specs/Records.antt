-- A walk through the records of a sheet.
use Rattle.std.specs.Prelude.{List}
use Rattle.sheets.specs.declared.sheet.Sheet.{Ghosts}
use Rattle.blocks.specs.Format.{records_from}
use Rattle.blocks.specs.Format.{Record as Meant}
use Rattle.list_writer.specs.declared.records.Record.{Record}
use Rattle.list_writer.specs.declared.records.Records.{Records}

abbrev pub record_meant : Record → Meant
record_meant r = record { key = r.key; points = r.points }

-- the records that a walk has yet to give
abbrev pub to_come : {S : Type 0} (sheets : Ghosts S) → Records S sheets → List Meant
to_come sheets walk = records_from (sheets.meaning walk.sheet.now) walk.next
