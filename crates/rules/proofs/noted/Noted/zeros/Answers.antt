use Rattle.rules.proofs.Notes.{at-zeros}
use Rattle.rules.proofs.noted.Noted.zeros.Goals as goal

pub returns : goal.returns
returns c = at-zeros 256
