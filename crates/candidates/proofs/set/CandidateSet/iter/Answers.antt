use Rattle.std.proofs.Common.{refl}
use Rattle.candidates.proofs.Walk.{remaining-first}
use Rattle.candidates.proofs.set.CandidateSet.iter.Goals as goal

pub returns : goal.returns
returns c = remaining-first _ refl refl
