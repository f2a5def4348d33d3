-- What a sheet means once a set of its candidates is struck.
use Rattle.std.specs.Prelude.{ℕ, Bool, cond, not, ◌&&◌, List}
use Rattle.candidates.specs.Sets.{is_in}
use Rattle.sheets.specs.Meaning.{Meaning}

-- Neither of the two is struck.
abbrev pub standing : List ℕ → ℕ → ℕ → Bool
standing set u v = not (is_in u set) && not (is_in v set)

-- A struck candidate fits nothing and has 0 points with all; all else is as below.
abbrev pub struck : Meaning → List ℕ → Meaning
struck m set = record { size = m.size; fit = λ u v. standing set u v && m.fit u v; points = λ u v. cond (standing set u v) (m.points u v) 0 }
