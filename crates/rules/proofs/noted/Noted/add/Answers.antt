use Rattle.std.proofs.Common.{arith}
use Rattle.rules.specs.Noted.{at}
use Rattle.rules.proofs.Notes.{at-set}
use Rattle.rules.proofs.noted.Noted.add.Goals as goal

pub overflow_add-self : goal.overflow_add-self
unfolding at
overflow_add-self c = omega arith

pub returns : goal.returns
unfolding at
returns c = at-set c.args.self.now.0 c.args.v _ (omega arith)
