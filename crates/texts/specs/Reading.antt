-- What a text says: the numbers of a table, or the first thing that is wrong.
use Rattle.std.specs.Prelude.{◌≡◌, ℕ, ◌+◌, ◌-◌, ◌*◌, Bool, true, false, cond, ◌&&◌, ◌||◌, ◌⊎◌, List, [], ◌∷◌, ◌++◌, Some, None, Ok, Err, vec_items, Option, Result, ◌==◌, nat_le}
use Rattle.std.specs.Option.{unwrap_or, option_to_list}
use Rattle.texts.specs.declared.faults.TextFault.{TextFault}
use Rattle.texts.specs.declared.faults.TextFault.TheVariants.{Byte, Large, Nothing, Memory}
use Rattle.texts.specs.declared.tables.Table.{Table}

-- White space is a blank, a tab, a newline or a carriage return.
abbrev pub is_white : ℕ → Bool
is_white b = b == 32 || (b == 9 || (b == 10 || b == 13))

-- The digits are 0 to 9 of ASCII.
abbrev pub is_digit : ℕ → Bool
is_digit b = nat_le 48 b && nat_le b 57

-- The number begun, or 0 where none is, with one more digit written after it.
abbrev pub grown : Option ℕ → ℕ → ℕ
grown begun b = unwrap_or begun 0 * 10 + (b - 48)

-- Numbers that came earlier, in front of those that the rest of a text gives.
abbrev pub behind : List ℕ → Result (List ℕ) TextFault → Result (List ℕ) TextFault
behind xs (Ok ys) = Ok (xs ++ ys)
behind xs (Err e) = Err e

-- The numbers that bytes give, where the first byte stands at `place` and `begun` is the number that it may go on with.
abbrev pub scanned : List ℕ → ℕ → Option ℕ → Result (List ℕ) TextFault
scanned [] place begun = Ok (option_to_list begun)
scanned (b ∷ bs) place begun =
    cond (is_white b) (behind (option_to_list begun) (scanned bs (place + 1) None))
    (cond (is_digit b)
    (cond (nat_le (grown begun b) 65535) (scanned bs (place + 1) (Some (grown begun b))) (Err (Large place)))
    (Err (Byte place)))

-- The numbers of a table are its size and then its entries.
abbrev pub numbers : Table → List ℕ
numbers t = t.size ∷ vec_items t.entries

-- So a text with no number holds no table.
abbrev pub tabled : Result (List ℕ) TextFault → Result (List ℕ) TextFault
tabled (Ok []) = Err Nothing
tabled (Ok (x ∷ xs)) = Ok (x ∷ xs)
tabled (Err e) = Err e

-- The numbers of the table that a text holds.
abbrev pub read : List ℕ → Result (List ℕ) TextFault
read text = tabled (scanned text 0 None)

-- Whether what is said is that there is no number.
abbrev pub says_none : Result (List ℕ) TextFault → Bool
says_none (Ok []) = true
says_none (Ok (x ∷ xs)) = false
says_none (Err (Byte _)) = false
says_none (Err (Large _)) = false
says_none (Err Nothing) = true
says_none (Err Memory) = false

-- A call answers what is said, unless memory runs out; where there is no number to say, it never does.
abbrev pub Answers : {X : Type 0} → Result (List ℕ) TextFault → (X → List ℕ) → Result X TextFault → Type 0
Answers said list (Ok x) = said ≡ Ok (list x)
Answers said list (Err e) = ((e ≡ Memory) × (says_none said ≡ false)) ⊎ (said ≡ Err e)
