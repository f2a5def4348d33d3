-- What an entry of an offer doesn't fit.
use Rattle.std.specs.Prelude.{ℕ, cond, List, Some, None, Option}
use Rattle.std.specs.List.{prefix_len}
use Rattle.sheets.specs.Cliques.{fits_all}
use Rattle.sheets.specs.Meaning.{Meaning}

-- the place of the first that v doesn't fit
abbrev pub first_unfit : Meaning → ℕ → List ℕ → Option ℕ
first_unfit m v before = cond (fits_all m v before) None (Some (prefix_len (m.fit v) before))
