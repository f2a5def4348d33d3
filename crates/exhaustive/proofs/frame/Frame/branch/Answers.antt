use Rattle.std.proofs.Common.{refl, ◌∙◌}
use Rattle.candidates.specs.Members.{members}
use Rattle.exhaustive.proofs.frame.Frame.branch.Goals as goal
use Rattle.sheets.proofs.Fitting.{common-fitting}

pub returns : goal.returns
returns g c = record {
  added = c.with.ensures.list;
  fitting = c.meet.ensures.list ∙ common-fitting (g.S.Sheet.meaning c.args.sheet.now) c.args.v c.fitting.result (members c.without-rest.result) c.fitting.ensures;
  same = refl;
  left = c.without-rest.ensures.list;
}
