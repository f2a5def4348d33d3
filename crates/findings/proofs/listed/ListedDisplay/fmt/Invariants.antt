use Rattle.candidates.specs.Walk.{remaining}
use Rattle.findings.proofs.Listing.{Sofar}
use Rattle.findings.proofs.listed.ListedDisplay.fmt.Given as goal

abbrev pub invariant-loop-v : goal.invariant-loop-v
invariant-loop-v g l = Sofar g.W.Write.write_str_gives l.initial.f (remaining l.initial.v-iterator) l.f (remaining l.v-iterator)
