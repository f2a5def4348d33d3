use Rattle.runs.proofs.Promised.{promised}
use Rattle.search.proofs.replay.replay.Goals as goal

pub returns-clause-promise : goal.returns-clause-promise
returns-clause-promise g c = promised (g.S.Sheet.meaning c.args.sheet) (g.S.Sheet.lawful c.args.sheet) (g.R.Rule.value c.args.rule) (g.R.Rule.bounds c.args.rule)
