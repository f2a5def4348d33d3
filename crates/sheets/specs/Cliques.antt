-- Sets in which all fit each other.
use Rattle.std.specs.Prelude.{◌≡◌, ℕ, ◌<◌, Bool, true, ◌&&◌, List, [], ◌∷◌, ◌≢◌, nat_lt}
use Rattle.candidates.specs.Sets.{is_in, Ascending}
use Rattle.sheets.specs.Meaning.{Meaning}

-- A set of candidates of the sheet in which every two different ones fit.
pub record Clique (m : Meaning) (K : List ℕ) : Type 0 where
  pub ascending : Ascending K
  pub below : (v : ℕ) → is_in v K ≡ true → v < m.size
  pub fits : (u v : ℕ) → is_in u K ≡ true → is_in v K ≡ true → (u ≢ v) → m.fit u v ≡ true

-- The same as a test, member by member: each is a candidate and fits all that follow.
abbrev pub fits_all : Meaning → ℕ → List ℕ → Bool
fits_all m v [] = true
fits_all m v (u ∷ K) = m.fit v u && fits_all m v K

abbrev pub is_clique : Meaning → List ℕ → Bool
is_clique m [] = true
is_clique m (v ∷ K) = nat_lt v m.size && (fits_all m v K && is_clique m K)

-- The empty set and each candidate alone are cliques.
pub record SmallCliques (m : Meaning) : Type 0 where
  pub empty : Clique m []
  pub single : (v : ℕ) → v < m.size → Clique m (v ∷ [])
