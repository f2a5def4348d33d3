-- Which of two sets is the earlier in list order.
use Rattle.std.specs.Prelude.{◌≡◌, ℕ, ◌<◌, true, false, ◌⊎◌, List}
use Rattle.candidates.specs.Sets.{is_in, Ascending}

-- The lowest number that stands in just one of the two stands in a. So {0, 1} is earlier than {0}, and {0} than {1}.
pub record Earlier (a b : List ℕ) : Type 0 where
  pub at : ℕ
  pub present : is_in at a ≡ true
  pub absent : is_in at b ≡ false
  pub alike : (k : ℕ) → k < at → is_in k a ≡ is_in k b

-- Earlier is a strict total order on sets.
pub record StrictTotal : Type 0 where
  pub irreflexive : (a : List ℕ) → Earlier a a → ⊥
  pub transitive : (a b c : List ℕ) → Earlier a b → Earlier b c → Earlier a c
  pub total : (a b : List ℕ) → Ascending a → Ascending b → (a ≡ b) ⊎ (Earlier a b ⊎ Earlier b a)
