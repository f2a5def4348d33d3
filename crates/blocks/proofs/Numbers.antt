-- Numbers in bytes: reading what was put, and putting what was read.
use Rattle.std.proofs.Common.{◌≡◌, ℕ, zero, suc, ◌+◌, ◌*◌, ◌/◌, ◌%◌, ◌^◌, ◌<◌, List, [], ◌∷◌, length, get_or, take, refl, ap, add-zero, arith}
use native.Mathlib.Nat.{pow-succ'}
use Rattle.std.proofs.lemmas.List.{take_all}
use Rattle.std.specs.Int.{byte_worth, sum_through}
use Rattle.blocks.specs.Bytes.{low_first, number, part, Bytes}

take_none : (w : ℕ) → take {A = ℕ} w [] ≡ []
take_none w = take_all w [] (omega arith)

-- one byte of a number
number_more : (w p : ℕ) (bs : List ℕ) → number (part (suc w) p bs) ≡ get_or bs p 0 + 256 * number (part w (suc p) bs)
unfolding number
number_more w zero [] = rw (take_none w) (omega arith)
number_more w (suc p) [] = rw (take_none w) (omega arith)
number_more w zero (b ∷ bs) = refl
number_more w (suc p) (b ∷ bs) = number_more w p bs

-- one byte more at the top
number_top : (w p : ℕ) (bs : List ℕ) → number (part (suc w) p bs) ≡ number (part w p bs) + get_or bs (p + w) 0 * 256 ^ w
unfolding number
number_top zero p bs = omega (arith, number_more 0 p bs, ap (λ k. get_or bs k 0) (add-zero p))
number_top (suc w) p bs =
    let place : suc p + w ≡ p + suc w = omega arith in
    let rest : number (part (suc w) (suc p) bs) ≡ number (part w (suc p) bs) + get_or bs (p + suc w) 0 * 256 ^ w = rw place at (number_top w (suc p) bs) in
    rw pow-succ' (omega (arith, number_more (suc w) p bs, number_more w p bs))

-- bytes that are those from a place on hold their number
pub number_from : (n p : ℕ) (held bs : List ℕ) → ((k : ℕ) → k < suc n → get_or held k 0 ≡ get_or bs (p + k) 0) → sum_through (λ i. byte_worth i (get_or held i 0)) n ≡ number (part (suc n) p bs)
unfolding number
number_from zero p held bs same = omega (arith, number_top 0 p bs, same 0 (omega arith))
number_from (suc n) p held bs same =
    omega (arith, number_top (suc n) p bs, number_from n p held bs (λ k less. same k (omega arith)), ap (λ b. b * 256 ^ suc n) (same (suc n) (omega arith)))

pub length-low_first : (w x : ℕ) → length (low_first w x) ≡ w
unfolding low_first
length-low_first zero x = refl
length-low_first (suc w) x = ap suc (length-low_first w (x / 256))

pub bytes-low_first : (w x : ℕ) → Bytes (low_first w x)
unfolding low_first
bytes-low_first zero x = tt
bytes-low_first (suc w) x = (omega arith, bytes-low_first w (x / 256))

pub number-low_first : (w x : ℕ) → x < 256 ^ w → number (low_first w x) ≡ x
unfolding low_first number
number-low_first zero x small = omega arith
number-low_first (suc w) x small =
    let less : x < 256 * 256 ^ w = rw pow-succ' at small in
    omega (arith, number-low_first w (x / 256) (omega arith))

pub low_first-number : (bs : List ℕ) → Bytes bs → low_first (length bs) (number bs) ≡ bs
unfolding low_first number
low_first-number [] all = refl
low_first-number (b ∷ bs) all =
    let first : (b + 256 * number bs) % 256 ≡ b = omega (arith, all.0) in
    let rest : (b + 256 * number bs) / 256 ≡ number bs = omega (arith, all.0) in
    rw (first, rest) (ap (λ xs. b ∷ xs) (low_first-number bs all.1))
