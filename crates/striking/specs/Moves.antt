-- What a list of strikes and restores says of a candidate.
use Rattle.std.specs.Prelude.{ℕ, Bool, true, false, List, ◌∷◌, ◌≢◌}
use Rattle.std.specs.List.{AllByRecursion}
use Rattle.striking.specs.declared.moves.Move.{Move}
use Rattle.striking.specs.declared.moves.Move.TheVariants.{Strike, Restore}

-- the candidate that a move names
abbrev pub named : Move → ℕ
named (Strike v) = v
named (Restore v) = v

abbrev pub strikes : Move → Bool
strikes (Strike _) = true
strikes (Restore _) = false

-- no move names v
abbrev pub Silent : ℕ → List Move → Type 0
Silent v moves = AllByRecursion (λ move. named move ≢ v) moves

-- The last of the moves that name v is a strike: it strikes v, and no later one names v.
pub data LastStrikes (v : ℕ) : List Move → Type 0 where
  here : {later : List Move} → Silent v later → LastStrikes v (Strike v ∷ later)
  after : {first : Move} {later : List Move} → LastStrikes v later → LastStrikes v (first ∷ later)
