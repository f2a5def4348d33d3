-- What is answered to a text: the pairing of the table that it holds, or the first fault.
use Rattle.std.specs.Prelude.{◌≡◌, ℕ, false, ◌⊎◌, List, ◌∷◌, Ok, Err, Result}
use Rattle.reports.specs.declared.refusal.Refusal.{Refusal}
use Rattle.reports.specs.declared.refusal.Refusal.TheVariants.{Text, Table}
use Rattle.reports.specs.declared.report.Report.{Report}
use Rattle.reports.specs.Reports.{Reports}
use Rattle.sheets.specs.declared.table.TableFault.{TableFault}
use Rattle.sheets.specs.Tables.{table, table_judged}
use Rattle.texts.specs.declared.faults.TextFault.TheVariants.{Memory}
use Rattle.texts.specs.Reading.{read, says_none}

-- The text holds an accepted table, and the report is on its sheet.
pub record Reported (text : List ℕ) (report : Report) : Type 0 where
  pub size : ℕ
  pub entries : List ℕ
  pub holds : read text ≡ Ok (size ∷ entries)
  pub accepted : table_judged size entries ≡ Ok tt
  pub reports : Reports (table size entries) report

-- The text holds a table that is refused with this fault.
pub record Refused (text : List ℕ) (fault : TableFault) : Type 0 where
  pub size : ℕ
  pub entries : List ℕ
  pub holds : read text ≡ Ok (size ∷ entries)
  pub judged : table_judged size entries ≡ Err fault

-- The answer to a text, unless memory runs out; for a text of white space alone it never does.
abbrev pub Paired : List ℕ → Result Report Refusal → Type 0
Paired text (Ok report) = Reported text report
Paired text (Err (Text fault)) = ((fault ≡ Memory) × (says_none (read text) ≡ false)) ⊎ (read text ≡ Err fault)
Paired text (Err (Table fault)) = Refused text fault
