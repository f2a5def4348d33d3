-- The numbers of the three rules for a whole sheet, and for one that can be worked by hand.
use Rattle.std.specs.Prelude.{◌≡◌, ℕ, List, [], ◌∷◌, ◌++◌, codes, decimal}
use Rattle.candidates.specs.Sets.{counting}
use Rattle.rules.specs.Bounds.{Number}
use Rattle.rules.specs.Colour.{colour}
use Rattle.rules.specs.Flat.{flat}
use Rattle.rules.specs.Path.{path}
use Rattle.rules.specs.declared.numbers.Numbers.{Numbers}
use Rattle.sheets.specs.Meaning.{Meaning}
use Rattle.sheets.specs.Tables.{table}

-- the number of a rule for no clique yet, and all candidates
abbrev pub whole : Number → Meaning → ℕ
whole number m = number m [] (counting 0 m.size)

abbrev pub numbers_of : Meaning → Numbers
numbers_of m = record { flat = whole flat m; colour = whole colour m; path = whole path m }

-- what is printed of them
abbrev pub numbers_line : Numbers → List ℕ
numbers_line n = codes "flat " ++ (decimal n.flat ++ (codes " colour " ++ (decimal n.colour ++ (codes " path " ++ decimal n.path))))

-- four candidates, of which 1 and 2 don't fit
abbrev pub small : Meaning
small = table 4 (5 ∷ 7 ∷ 65535 ∷ 1 ∷ 9 ∷ 4 ∷ [])

pub record Worked : Type 0 where
  pub flat : whole flat small ≡ 26
  pub colour : whole colour small ≡ 15
  pub path : whole path small ≡ 21
