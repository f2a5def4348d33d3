use Rattle.std.proofs.Common.{◌≡◌}
use Rattle.candidates.specs.Members.{members}
use Rattle.candidates.specs.Walk.{remaining}
use Rattle.rules.specs.Colour.{raised}
use Rattle.rules.specs.Noted.{at}
use Rattle.rules.proofs.colour.raise.Given as goal

-- what is left gives the whole
abbrev pub invariant-loop-v : goal.invariant-loop-v
invariant-loop-v g l =
    let rising = raised (g.S.Sheet.meaning l.sheet) (members l.class) in
    rising (remaining l.v-iterator) (at l.sigma) ≡ rising (remaining l.initial.v-iterator) (at l.initial.sigma)
