use Rattle.std.proofs.Common.{length}
use Rattle.candidates.specs.Members.{members}
use Rattle.trials.proofs.gains.+greatest_gain.Given as goal

abbrev pub decreases-greatest_gain : goal.decreases-greatest_gain
decreases-greatest_gain g l = length (members l.rest)
