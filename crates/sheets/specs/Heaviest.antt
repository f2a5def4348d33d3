-- The set that goes into the accounts.
use Rattle.std.specs.Prelude.{◌≡◌, ℕ, ◌≤◌, List, ◌≢◌}
use Rattle.candidates.specs.Order.{Earlier}
use Rattle.sheets.specs.Meaning.{Meaning}
use Rattle.sheets.specs.Weights.{weight}
use Rattle.sheets.specs.Cliques.{Clique}

-- K is a clique of weight w, no clique outweighs it, and it is earlier than every other clique of its weight.
pub record FirstHeaviest (m : Meaning) (K : List ℕ) (w : ℕ) : Type 0 where
  pub clique : Clique m K
  pub weighs : weight m K ≡ w
  pub heaviest : (J : List ℕ) → Clique m J → weight m J ≤ w
  pub first : (J : List ℕ) → Clique m J → weight m J ≡ w → (J ≢ K) → Earlier K J
