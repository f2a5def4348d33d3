-- What a table sheet means.
use Rattle.sheets.specs.declared.table.TableSheet.{TableSheet}
use Rattle.sheets.specs.Meaning.{Lawful, Meaning}
use Rattle.sheets.specs.TableLaws.{table-laws}
use Rattle.sheets.specs.Tables.{table}

-- the table that it reads
abbrev pub meaning_of : TableSheet → Meaning
meaning_of s = table s.size s.entries.now

pub table-lawful : (s : TableSheet) → Lawful (meaning_of s)
table-lawful s = table-laws s.size s.entries.now s.least s.most
