-- What a search is made of, and what one node does to it.
use Rattle.std.specs.Prelude.{ℕ, ◌+◌, min, max, Bool, true, false, cond, List, [], ◌∷◌, Some, None, filter, Option, nat_le, nat_lt}
use Rattle.candidates.specs.Sets.{counting, inserted}
use Rattle.sheets.specs.Meaning.{Meaning}
use Rattle.sheets.specs.Weights.{weight}
use Rattle.rules.specs.Bounds.{Number, inside}

-- A clique, the rest that may still be added to it, and a mark that nothing so made outweighs. (An open subproblem of branch and bound.)
pub record Frame : Type 0 where
  pub clique : List ℕ
  pub rest : List ℕ
  pub mark : ℕ

abbrev pub frame : List ℕ → List ℕ → ℕ → Frame
frame C S mark = record { clique = C; rest = S; mark = mark }

-- A set that is held, beside its weight. (The incumbent.)
pub record Held : Type 0 where
  pub set : List ℕ
  pub weight : ℕ

abbrev pub weighed : Meaning → List ℕ → Held
weighed m K = record { set = K; weight = weight m K }

-- A search: what it holds, if anything, and its frames, the top one first.
pub record State : Type 0 where
  pub held : Option Held
  pub stack : List Frame

abbrev pub state : Option Held → List Frame → State
state held stack = record { held = held; stack = stack }

-- A new search holds none and has one frame: nothing is in, every candidate may be added, and the mark is the sum of all points.
abbrev pub start : Meaning → State
start m = state None (frame [] (counting 0 m.size) (weight m (counting 0 m.size)) ∷ [])

abbrev pub is_empty : List Frame → Bool
is_empty [] = true
is_empty (f ∷ below) = false

-- A search is finished when the stack is empty.
abbrev pub finished : State → Bool
finished s = is_empty s.stack

-- None is held, or w is greater than the held weight.
abbrev pub takes : Option Held → ℕ → Bool
takes None w = true
takes (Some h) w = nat_lt h.weight w

-- What is held once K was shown to the search.
abbrev pub offered : Meaning → Option Held → List ℕ → Option Held
offered m held K = cond (takes held (weight m K)) (Some (weighed m K)) held

-- A set is held, and b is at most its weight.
abbrev pub reaches : Option Held → ℕ → Bool
reaches None b = false
reaches (Some h) b = nat_le b h.weight

-- W(C) plus the number of the rule, which is asked at what of the two sets is below size.
abbrev pub bound : Meaning → Number → List ℕ → List ℕ → ℕ
bound m number C S = weight m C + number m (inside m C) (inside m S)

-- v has left the rest, and a frame goes on top: C with v added, those of the rest that fit v, and the same mark.
abbrev pub branch : Meaning → List ℕ → ℕ → List ℕ → ℕ → List Frame → List Frame
branch m C v S mark below = frame (inserted v C) (filter (m.fit v) S) mark ∷ frame C S mark ∷ below

-- A node at the top frame. If its rest is empty, the clique is shown to the search, and the frame goes.
-- If the held weight reaches the bound, the frame goes. Otherwise the mark falls to the bound, if this is less, and the lowest of the rest branches off.
abbrev pub node_at : Meaning → Number → Option Held → List ℕ → List ℕ → ℕ → List Frame → State
node_at m number held C [] mark below = state (offered m held C) below
node_at m number held C (v ∷ S) mark below =
    let b = bound m number C (v ∷ S) in
    state held (cond (reaches held b) below (branch m C v S (min mark b) below))

abbrev pub node-on : Meaning → Number → Option Held → List Frame → State
node-on m number held [] = state held []
node-on m number held (f ∷ below) = node_at m number held f.clique f.rest f.mark below

-- One node. A finished search stays as it is.
abbrev pub node : Meaning → Number → State → State
node m number s = node-on m number s.held s.stack

-- the greatest of 0 and the marks
abbrev pub highest : List Frame → ℕ
highest [] = 0
highest (f ∷ below) = max f.mark (highest below)

-- c, or the held weight if it is greater
abbrev pub with_held : Option Held → ℕ → ℕ
with_held None c = c
with_held (Some h) c = max h.weight c

-- The ceiling: the greatest of the held weight, 0, and the marks on the stack. (The global upper bound.)
abbrev pub ceiling : State → ℕ
ceiling s = with_held s.held (highest s.stack)
