-- A frame is a set C that is taken and a set S of those that may still be added: which cliques come from it.
use Rattle.std.specs.Prelude.{◌≡◌, ℕ, ◌<◌, true, List, ◌++◌}
use Rattle.candidates.specs.Sets.{is_in, Ascending, Sub}
use Rattle.sheets.specs.Cliques.{Clique}
use Rattle.sheets.specs.Meaning.{Meaning}

-- K is C with a clique out of S
pub record Comes (m : Meaning) (C S K : List ℕ) : Type 0 where
  pub added : List ℕ
  pub is : K ≡ C ++ added
  pub clique : Clique m added
  pub part : Sub added S

-- C can be completed by every clique out of S
pub record Open (m : Meaning) (C S : List ℕ) : Type 0 where
  pub ascending : Ascending S
  pub below : (v : ℕ) → is_in v S ≡ true → v < m.size
  pub behind : (u v : ℕ) → is_in u C ≡ true → is_in v S ≡ true → u < v
  pub complete : (F : List ℕ) → Clique m F → Sub F S → Clique m (C ++ F)
