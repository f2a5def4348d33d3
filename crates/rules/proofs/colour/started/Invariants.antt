use Rattle.std.proofs.Common.{◌≡◌}
use Rattle.candidates.specs.Members.{members}
use Rattle.candidates.specs.Walk.{remaining}
use Rattle.sheets.specs.Weights.{rho}
use Rattle.rules.specs.Colour.{started}
use Rattle.rules.specs.Noted.{at}
use Rattle.rules.proofs.Notes.{filled}
use Rattle.rules.proofs.colour.started.Given as goal

-- with what is left σ is whole
abbrev pub invariant-loop-v : goal.invariant-loop-v
invariant-loop-v g l =
    let m = g.S.Sheet.meaning l.sheet in
    let C = members l.c in
    filled (rho m C) (remaining l.v-iterator) (at l.sigma) ≡ started m C (remaining l.initial.v-iterator)
