use Rattle.std.proofs.Common.{length}
use Rattle.candidates.specs.Members.{members}
use Rattle.exhaustive.proofs.pairing.+explore.Given as goal

abbrev pub decreases-explore : goal.decreases-explore
decreases-explore g l = length (members l.frame.rest)
