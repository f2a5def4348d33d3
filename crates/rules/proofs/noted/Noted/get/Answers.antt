use Rattle.std.proofs.Common.{rules}
use Rattle.rules.specs.Noted.{at}
use Rattle.rules.proofs.noted.Noted.get.Goals as goal

pub returns : goal.returns
unfolding at
returns c = search rules
