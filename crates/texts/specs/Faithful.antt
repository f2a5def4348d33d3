-- What reading a table promises, in words that do not say how it reads.
use Rattle.std.specs.Prelude.{◌≡◌, ℕ, ◌+◌, ◌<◌, ◌≤◌, true, ◌||◌, List, [], ◌∷◌, ◌++◌, length, Ok, Err, decimal, Result}
use Rattle.std.specs.List.{prefix_len}
use Rattle.texts.specs.declared.faults.TextFault.{TextFault}
use Rattle.texts.specs.declared.faults.TextFault.TheVariants.{Byte, Large, Nothing, Memory}
use Rattle.texts.specs.declared.tables.Table.{Table}
use Rattle.texts.specs.Reading.{is_digit, is_white, tabled, numbers, Answers}

-- What follows a number is white space or the end.
abbrev pub Ends : List ℕ → Type 0
Ends [] = Unit {0}
Ends (b ∷ bs) = is_white b ≡ true

-- The text writes these numbers: each in decimal and at most 65,535, with white space between them, in any layout.
pub data Writes : List ℕ → List ℕ → Type 0 where
  nothing : Writes [] []
  space : {b : ℕ} {bs xs : List ℕ} → is_white b ≡ true → Writes bs xs → Writes (b ∷ bs) xs
  number : {n : ℕ} {bs xs : List ℕ} → n ≤ 65535 → Ends bs → Writes bs xs → Writes (decimal n ++ bs) (n ∷ xs)

-- How many bytes stand before the first one that is neither a digit nor white space.
abbrev pub first_other : List ℕ → ℕ
first_other bs = prefix_len (λ b. is_digit b || is_white b) bs

-- What a fault says of that byte, in bytes of which the first stands at `from`: it is the one, it comes later if at all, or there is none.
abbrev pub Marks : List ℕ → ℕ → TextFault → Type 0
Marks bs from (Byte place) = (place ≡ from + first_other bs) × (first_other bs < length bs)
Marks bs from (Large place) = place < from + first_other bs
Marks bs from Nothing = first_other bs ≡ length bs
Marks bs from Memory = Unit {0}

-- Bytes are accepted only if there is none.
abbrev pub Guards : {X : Type 0} → List ℕ → ℕ → Result X TextFault → Type 0
Guards bs from (Ok x) = first_other bs ≡ length bs
Guards bs from (Err e) = Marks bs from e

-- Numbers that are written are read back, and a text with any other byte in it is refused.
pub record Faithful (text : List ℕ) (r : Result Table TextFault) : Type 0 where
  pub written : (xs : List ℕ) → Writes text xs → Answers (tabled (Ok xs)) numbers r
  pub guarded : Guards text 0 r
