use Rattle.std.proofs.Common.{◌≡◌, ℕ, ◌||◌, length}
use Rattle.candidates.specs.Members.{has, members}
use Rattle.candidates.specs.Sets.{is_in}
use Rattle.rules.specs.Noted.{at}
use Rattle.rules.specs.Colour.{class_of}
use Rattle.rules.proofs.colour.class_of.Given as goal

-- what can still join gives the rest of the class
abbrev pub invariant-loop-v : goal.invariant-loop-v
invariant-loop-v g l =
    let picked = class_of (g.S.Sheet.meaning l.sheet) (at l.sigma) in
    (k : ℕ) → (has l.class k || is_in k (picked (members l.open))) ≡ is_in k (picked (members l.initial.open))

abbrev pub decreases-loop-v : goal.decreases-loop-v
decreases-loop-v g l = length (members l.open)
