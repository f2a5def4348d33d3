-- What a report says of a sheet.
use Rattle.std.specs.Prelude.{◌≡◌, true}
use Rattle.candidates.specs.Members.{members}
use Rattle.findings.specs.Searched.{Searched}
use Rattle.reports.specs.declared.report.Report.{Report}
use Rattle.rules.specs.Colour.{colour}
use Rattle.rules.specs.Lesser.{lesser}
use Rattle.rules.specs.Numbers.{numbers_of}
use Rattle.rules.specs.Path.{path}
use Rattle.runs.specs.Promise.{Promise}
use Rattle.sheets.specs.Heaviest.{FirstHeaviest}
use Rattle.sheets.specs.Meaning.{Meaning}

-- It has the sheet's size, the first of its heaviest cliques, the rules' numbers, and what a search found, which is the same set and points if the search is finished; and that search keeps the promise of every search.
pub record Reports (m : Meaning) (report : Report) : Type 0 where
  pub candidates : report.candidates ≡ m.size
  pub heaviest : FirstHeaviest m (members report.pairing.set) report.pairing.points
  pub numbers : report.numbers ≡ numbers_of m
  pub searched : Searched m (lesser colour path) 50 report.found
  pub same : report.found.finished ≡ true → (members report.found.pairing.set ≡ members report.pairing.set) × (report.found.pairing.points ≡ report.pairing.points)
  pub promise : Promise m (lesser colour path)
