-- What a rule owes: a number that no clique's gain passes. (An upper bound for branch and bound.)
use Rattle.std.specs.Prelude.{◌≡◌, ℕ, ◌<◌, ◌≤◌, true, cond, List, Some, None, filter, Option, nat_le, nat_lt}
use Rattle.candidates.specs.Sets.{is_in, Within, Ascending}
use Rattle.sheets.specs.Meaning.{Meaning, Lawful}
use Rattle.sheets.specs.Weights.{gain}
use Rattle.sheets.specs.Cliques.{Clique}

-- The number of a rule at a sheet, a clique C, and the set S of those that may join it.
abbrev pub Number : Type 0
Number = Meaning → List ℕ → List ℕ → ℕ

-- A set of candidates of the sheet.
pub record Candidates (m : Meaning) (S : List ℕ) : Type 0 where
  pub ascending : Ascending S
  pub below : (v : ℕ) → is_in v S ≡ true → v < m.size

-- what of a set is a candidate of the sheet
abbrev pub inside : Meaning → List ℕ → List ℕ
inside m xs = filter (λ k. nat_lt k m.size) xs

-- the number of a rule at what of both sets is inside
abbrev pub number_inside : Number → Number
number_inside number m C S = number m (inside m C) (inside m S)

-- At least the gain over C of every clique within S, and never more than 2 ^ 40 - 1.
pub record Bounds (number : Number) : Type 0 where
  pub covers : (m : Meaning) → Lawful m → (C S F : List ℕ) → Candidates m C → Candidates m S → Clique m F → Within F S → gain m C F ≤ number m C S
  pub limit : (m : Meaning) → Lawful m → (C S : List ℕ) → Candidates m C → Candidates m S → number m C S ≤ 1099511627775

-- the number, where it is above the limit
abbrev pub over : ℕ → ℕ → Option ℕ
over limit number = cond (nat_le number limit) None (Some number)
