-- What is held once every clique from a frame has been tried, in list order.
use Rattle.std.specs.Prelude.{◌≡◌, ℕ, ◌<◌, ◌≤◌, List, Some, None, Option, ◌≢◌}
use Rattle.std.specs.Option.{option_map}
use Rattle.candidates.specs.Members.{members}
use Rattle.candidates.specs.Order.{Earlier}
use Rattle.sheets.specs.declared.pairing.Pairing.{Pairing}
use Rattle.sheets.specs.Frames.{Comes}
use Rattle.sheets.specs.Meaning.{Meaning}
use Rattle.sheets.specs.Weights.{weight}

-- a set and its weight, or none
abbrev pub Held : Type 0
Held = Option (List ℕ × ℕ)

-- a set is held that weighs w or more
abbrev pub Covers : Held → ℕ → Type 0
Covers None w = ⊥
Covers (Some h) w = w ≤ h.1

-- what is held weighs less than w, or none is held
abbrev pub Lighter : Held → ℕ → Type 0
Lighter None w = Unit {0}
Lighter (Some h) w = h.1 < w

-- K is the first of the heaviest that come from the frame, and heavier than what was held
pub record Found (m : Meaning) (C S : List ℕ) (old : Held) (K : List ℕ) (w : ℕ) : Type 0 where
  pub comes : Comes m C S K
  pub weighs : weight m K ≡ w
  pub heavier : Lighter old w
  pub heaviest : (J : List ℕ) → Comes m C S J → weight m J ≤ w
  pub first : (J : List ℕ) → Comes m C S J → weight m J ≡ w → (J ≢ K) → Earlier K J

-- what was held covers all that comes from the frame and stays, or gives way
pub data Explored (m : Meaning) (C S : List ℕ) (old new : Held) : Type 0 where
  stays : new ≡ old → ((K : List ℕ) → Comes m C S K → Covers old (weight m K)) → Explored m C S old new
  gives : (K : List ℕ) (w : ℕ) → new ≡ Some (K, w) → Found m C S old K w → Explored m C S old new

-- what the code holds
abbrev pub held_of : Option Pairing → Held
held_of h = option_map (λ p. (members p.set, p.points)) h
