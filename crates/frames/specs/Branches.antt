-- What becomes of a frame when v branches off.
use Rattle.std.specs.Prelude.{ℕ, min, cond, List, [], ◌∷◌, nat_lt}
use Rattle.candidates.specs.Sets.{inserted, removed, common}
use Rattle.runs.specs.State.{Frame, frame}

-- v leaves the rest, and the mark falls to the bound
abbrev pub lowered : ℕ → ℕ → Frame → Frame
lowered v bound f = frame f.clique (removed v f.rest) (min f.mark bound)

-- the frame that goes on top: v is added, and of the rest those stay that fit it
abbrev pub child : ℕ → List ℕ → ℕ → Frame → Frame
child v fitting bound f = frame (cond (nat_lt v 256) (inserted v f.clique) f.clique) (common (removed v f.rest) fitting) (min f.mark bound)

-- v branches off the top
abbrev pub branched : ℕ → List ℕ → ℕ → List Frame → List Frame
branched v fitting bound [] = []
branched v fitting bound (f ∷ below) = child v fitting bound f ∷ lowered v bound f ∷ below
