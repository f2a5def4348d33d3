-- Numbers as bytes, low byte first.
use Rattle.std.specs.Prelude.{ℕ, zero, suc, ◌+◌, ◌*◌, ◌/◌, ◌%◌, ◌<◌, Bool, true, ◌&&◌, List, [], ◌∷◌, take, drop, ◌==◌}
use Rattle.std.specs.List.{AllByRecursion}

-- x in so many bytes, low byte first
unfoldable pub low_first : ℕ → ℕ → List ℕ
low_first zero x = []
low_first (suc width) x = x % 256 ∷ low_first width (x / 256)

-- the number that bytes hold, low byte first
unfoldable pub number : List ℕ → ℕ
number [] = 0
number (b ∷ bs) = b + 256 * number bs

-- the part of a list that begins at a place and has a width
abbrev pub part : {X : Type 0} → ℕ → ℕ → List X → List X
part width place xs = take width (drop place xs)

unfoldable pub all_zero : List ℕ → Bool
all_zero [] = true
all_zero (b ∷ bs) = b == 0 && all_zero bs

-- each is a byte
abbrev pub Bytes : List ℕ → Type 0
Bytes bs = AllByRecursion (λ b. b < 256) bs
