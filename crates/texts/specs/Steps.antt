-- What taking one byte keeps, for the loop that reads.
use Rattle.std.specs.Prelude.{◌≡◌, ℕ, ◌+◌, true, ◌⊎◌, List, ◌∷◌, Ok, Err, Option, Result}
use Rattle.std.specs.Option.{is_some}
use Rattle.texts.specs.declared.faults.TextFault.{TextFault}
use Rattle.texts.specs.declared.faults.TextFault.TheVariants.{Memory}
use Rattle.texts.specs.Reading.{is_white, behind, scanned}

-- With byte b at `place`, the numbers xs became ys and the number begun became `next`: whatever follows, the whole gives the same. Memory is only asked for where white space ends a number.
abbrev pub Steps : List ℕ → Option ℕ → ℕ → ℕ → List ℕ → Result (Option ℕ) TextFault → Type 0
Steps xs begun place b ys (Ok next) = (bs : List ℕ) → behind xs (scanned (b ∷ bs) place begun) ≡ behind ys (scanned bs (place + 1) next)
Steps xs begun place b ys (Err e) = ((e ≡ Memory) × ((is_white b ≡ true) × (is_some begun ≡ true))) ⊎ ((bs : List ℕ) → scanned (b ∷ bs) place begun ≡ Err e)
