use Rattle.std.proofs.Common.{◌≡◌, ◌+◌, ◌-◌, ◌*◌, length}
use Rattle.candidates.specs.Members.{members}
use Rattle.rules.specs.Noted.{AtMost, at}
use Rattle.rules.specs.Colour.{coloured, sum_of_highest}
use Rattle.rules.proofs.colour.coloured.Given as goal

-- what is left gives the whole, and σ has room for a rise at each class to come
abbrev pub invariant-loop-sigma : goal.invariant-loop-sigma
invariant-loop-sigma g l =
    let m = g.S.Sheet.meaning l.sheet in
    let S = members l.left in
    let whole = members l.initial.left in
    AtMost (33553408 - 65534 * length S) (at l.sigma)
    × (l.sum + sum_of_highest (coloured m (length S) (at l.sigma) S) ≡ sum_of_highest (coloured m (length whole) (at l.initial.sigma) whole))

abbrev pub decreases-loop-sigma : goal.decreases-loop-sigma
decreases-loop-sigma g l = length (members l.left)
