use Rattle.std.proofs.Common.{arith}
use Rattle.rules.proofs.Notes.{at-set}
use Rattle.rules.proofs.noted.Noted.note.Goals as goal

pub returns : goal.returns
returns c = at-set c.args.self.now.0 c.args.v c.args.number (omega arith)
