-- The frames of a stack as the definitions have them, and how high a stack can grow.
use Rattle.std.specs.Prelude.{ℕ, ◌+◌, max, List, [], ◌∷◌, map, length}
use Rattle.candidates.specs.Members.{members}
use Rattle.frames.specs.declared.frame.Frame.{Frame}
use Rattle.runs.specs.State as runs

abbrev pub shown : Frame → runs.Frame
shown f = runs.frame (members f.clique) (members f.rest) f.mark

-- the top first
abbrev pub frames_of : List Frame → List runs.Frame
frames_of s = map shown s

-- The greatest height that a stack can come to: each in the rest of a frame may add one to the height of that frame, which is counted from 1.
abbrev pub reach : List runs.Frame → ℕ
reach [] = 0
reach (f ∷ below) = max (length f.rest + length (f ∷ below)) (reach below)
