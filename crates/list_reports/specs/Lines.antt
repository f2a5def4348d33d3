-- What is printed of a report: five lines, the last without its end.
use Rattle.std.specs.Prelude.{ℕ, List, ◌++◌, codes, decimal}
use Rattle.candidates.specs.Members.{members}
use Rattle.findings.specs.Lines.{listed, yes_or_no}
use Rattle.list_reports.specs.declared.report.Report.{Report}

abbrev pub report_lines : Report → List ℕ
report_lines r = codes "candidates " ++ (decimal r.candidates ++ (codes "\nset" ++ (listed (members r.found.pairing.set) ++ (codes "\npoints " ++ (decimal r.found.pairing.points ++ (codes "\nceiling " ++ (decimal r.found.ceiling ++ (codes "\nfinished " ++ (yes_or_no r.found.finished ++ (codes " nodes " ++ decimal r.found.nodes))))))))))
