-- What a report says of a sheet.
use Rattle.std.specs.Prelude.{◌≡◌}
use Rattle.findings.specs.Searched.{Searched}
use Rattle.list_reports.specs.declared.report.Report.{Report}
use Rattle.rules.specs.Bounds.{Number}
use Rattle.rules.specs.Colour.{colour}
use Rattle.rules.specs.Lesser.{lesser}
use Rattle.rules.specs.Path.{path}
use Rattle.runs.specs.Promise.{Promise}
use Rattle.sheets.specs.Meaning.{Meaning}

-- the rule that is used
abbrev pub rule : Number
rule = lesser colour path

-- It has the sheet's size, and what a search finds in 50 grants; and that search keeps the promise of every search.
pub record Reports (m : Meaning) (report : Report) : Type 0 where
  pub candidates : report.candidates ≡ m.size
  pub searched : Searched m rule 50 report.found
  pub promise : Promise m rule
