-- Worked lists.
use Rattle.std.specs.Prelude.{◌≡◌, ℕ, List, [], ◌∷◌, ◌++◌, replicate, Ok}
use Rattle.sheets.specs.Meaning.{Meaning}
use Rattle.sheets.specs.Tables.{table}
use Rattle.blocks.specs.Bytes.{low_first}
use Rattle.blocks.specs.Format.{meaning_of, written}
use Rattle.blocks.specs.Questions.{judged}

abbrev pub sheet_a : Meaning
sheet_a = table 4 (5 ∷ 7 ∷ 65535 ∷ 1 ∷ 9 ∷ 4 ∷ [])

-- one block: place 0, five records and n − 1; the records; zeros; and check 664
abbrev pub list_a : List ℕ
list_a =
    (0 ∷ 0 ∷ 5 ∷ 3 ∷ 0 ∷ 1 ∷ 5 ∷ 0 ∷ 0 ∷ 2 ∷ 7 ∷ 0 ∷ 0 ∷ 3 ∷ 1 ∷ 0 ∷ 1 ∷ 3 ∷ 9 ∷ 0 ∷ 2 ∷ 3 ∷ 4 ∷ 0 ∷ []) ++ (replicate 484 0 ++ low_first 4 664)

pub record WorkedLists : Type 0 where
  pub sheet-a : written sheet_a ≡ list_a
  pub zeros : judged (replicate 512 0) ≡ Ok tt
  pub single : (meaning_of (replicate 512 0)).size ≡ 1
