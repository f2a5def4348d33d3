-- What is answered to the bytes that a program is given.
use Rattle.std.specs.Prelude.{◌≡◌, ℕ, List, Ok, Err, Result}
use Rattle.blocks.specs.Faults.{line, program_refusal}
use Rattle.blocks.specs.Format.{meaning_of}
use Rattle.blocks.specs.Questions.{program_judged}
use Rattle.blocks.specs.declared.faults.ProgramFault.{ProgramFault}
use Rattle.list_reports.specs.declared.report.Report.{Report}
use Rattle.list_reports.specs.Lines.{report_lines}
use Rattle.list_reports.specs.Reports.{Reports}

-- The bytes are an accepted list, and the report is on the sheet that it holds; or they are refused with this fault.
abbrev pub Paired : List ℕ → Result Report ProgramFault → Type 0
Paired bytes (Ok report) = (program_judged bytes ≡ Ok tt) × Reports (meaning_of bytes) report
Paired bytes (Err fault) = program_judged bytes ≡ Err fault

-- what is printed of an answer
abbrev pub printed : Result Report ProgramFault → List ℕ
printed (Ok report) = report_lines report
printed (Err fault) = line (program_refusal fault)

-- The bytes settle what is printed: two answers to them don't print differently.
abbrev pub Settled : List ℕ → Type 0
Settled bytes = (a b : Result Report ProgramFault) → Paired bytes a → Paired bytes b → printed a ≡ printed b
