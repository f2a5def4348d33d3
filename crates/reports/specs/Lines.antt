-- What is printed of a report and of a refusal.
use Rattle.std.specs.Prelude.{ℕ, List, ◌++◌, codes, decimal}
use Rattle.candidates.specs.Members.{members}
use Rattle.findings.specs.Lines.{found_lines, listed}
use Rattle.reports.specs.declared.refusal.Refusal.{Refusal}
use Rattle.reports.specs.declared.refusal.Refusal.TheVariants.{Text, Table}
use Rattle.reports.specs.declared.report.Report.{Report}
use Rattle.rules.specs.Numbers.{numbers_line}
use Rattle.sheets.specs.declared.table.TableFault.{TableFault}
use Rattle.sheets.specs.declared.table.TableFault.TheVariants.{Size, Entries}
use Rattle.sheets.specs.Tables.{table_number}
use Rattle.texts.specs.Lines.{line}

-- What an accepted table would have.
abbrev pub reason_of : TableFault → List ℕ
reason_of Size = codes "a sheet has 1 to 256 candidates"
reason_of Entries = codes "n candidates have n(n - 1)/2 entries"

-- A table's fault by its number, and a text's fault as the text's own line.
abbrev pub refusal_line : Refusal → List ℕ
refusal_line (Text fault) = line fault
refusal_line (Table fault) = codes "refused " ++ (decimal (table_number fault) ++ (codes ": " ++ reason_of fault))

-- The candidates, the set and its points, a line for each, the numbers of the rules on one, and what a search found.
abbrev pub report_lines : Report → List ℕ
report_lines r = codes "candidates " ++ (decimal r.candidates ++ (codes "\nset" ++ (listed (members r.pairing.set) ++ (codes "\npoints " ++ (decimal r.pairing.points ++ (codes "\n" ++ (numbers_line r.numbers ++ (codes "\n" ++ found_lines r.found))))))))
