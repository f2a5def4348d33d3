-- The marks of one word: what the operations on words do to each mark. Assumes nothing.
use Rattle.std.proofs.Common.{◌≡◌, ℕ, zero, suc, ◌+◌, ◌-◌, ◌/◌, ◌%◌, ◌^◌, ◌<◌, min, max, Bool, true, false, not, ◌&&◌, ◌||◌, eqb, ltb, ◌⊎◌, length, filter, sym, refl, ap, ◌∙◌, inl, inr, ⊎_elim, div-one, one-add, arith, pow_pos, shr-shr}
use mathlib.Core.Path.{fun_ext}
use lib.Bits.{bit_and, bit_or, and_step, or_step, and_shr, or_shr}
use lib.Count.{count_trailing_zeros, ones, ones_step, ones-le}
use Rattle.std.proofs.lemmas.Bool.{cases_eq}
use Rattle.std.proofs.lemmas.Bool.Decides.{nat_tests}
use Rattle.candidates.specs.Members.{bit}
use Rattle.candidates.specs.Sets.{counting}

pub bit-zero : (w : ℕ) → bit w 0 ≡ eqb (w % 2) 1
unfolding bit
bit-zero w = ap (λ x. eqb (x % 2) 1) (div-one w)

pub bit-suc : (w k : ℕ) → bit w (suc k) ≡ bit (w / 2) k
unfolding bit
bit-suc w k = ap (λ x. eqb (x % 2) 1) (ap (λ x. w / 2 ^ x) (sym (one-add k)) ∙ sym (shr-shr w 1 k))

low_and : (x y : ℕ) → eqb (bit_and x y % 2) 1 ≡ (eqb (x % 2) 1 && eqb (y % 2) 1)
low_and x y =
    let e : bit_and x y % 2 ≡ min (x % 2) (y % 2) = omega (arith, and_step x y) in
    rw e (grind (arith, nat_tests))

low_or : (x y : ℕ) → eqb (bit_or x y % 2) 1 ≡ (eqb (x % 2) 1 || eqb (y % 2) 1)
low_or x y =
    let e : bit_or x y % 2 ≡ max (x % 2) (y % 2) = omega (arith, or_step x y) in
    rw e (grind (arith, nat_tests))

pub bit-and : (a b k : ℕ) → bit (bit_and a b) k ≡ (bit a k && bit b k)
unfolding bit
bit-and a b k = rw (and_shr a b k) (low_and (a / 2 ^ k) (b / 2 ^ k))

pub bit-or : (a b k : ℕ) → bit (bit_or a b) k ≡ (bit a k || bit b k)
unfolding bit
bit-or a b k = rw (or_shr a b k) (low_or (a / 2 ^ k) (b / 2 ^ k))

pub bit-none : (k : ℕ) → bit 0 k ≡ false
bit-none zero = bit-zero 0
bit-none (suc k) = bit-suc 0 k ∙ bit-none k

pub bit-power : (j k : ℕ) → bit (2 ^ j) k ≡ eqb k j
bit-power zero zero = bit-zero 1
bit-power zero (suc k) = bit-suc 1 k ∙ bit-none k ∙ grind (arith, nat_tests)
bit-power (suc j) zero =
    let even : 2 ^ suc j % 2 ≡ 0 = omega arith in
    bit-zero (2 ^ suc j) ∙ rw even (grind (arith, nat_tests))
bit-power (suc j) (suc k) =
    let half : 2 ^ suc j / 2 ≡ 2 ^ j = omega arith in
    bit-suc (2 ^ suc j) k ∙ rw half (bit-power j k ∙ grind (arith, nat_tests))

-- the marks of the complement in n marks
pub bit-complement : (n w k : ℕ) → w < 2 ^ n → k < n → bit (2 ^ n - 1 - w) k ≡ not (bit w k)
bit-complement zero w k h l = absurd (omega arith)
bit-complement (suc n) w zero h l =
    let odd : (2 ^ suc n - 1 - w) % 2 ≡ 1 - w % 2 = omega arith in
    bit-zero (2 ^ suc n - 1 - w) ∙ rw odd (rw bit-zero (grind (arith, nat_tests)))
bit-complement (suc n) w (suc k) h l =
    let half : (2 ^ suc n - 1 - w) / 2 ≡ 2 ^ n - 1 - w / 2 = omega arith in
    bit-suc (2 ^ suc n - 1 - w) k ∙ rw half (bit-complement n (w / 2) k (omega arith) (omega arith)) ∙ ap not (sym (bit-suc w k))

-- the lowest n marks
pub bit-low : (n k : ℕ) → bit (2 ^ n - 1) k ≡ ltb k n
bit-low zero k = bit-none k ∙ grind (arith, nat_tests)
bit-low (suc n) zero =
    let odd : (2 ^ suc n - 1) % 2 ≡ 1 = omega (arith, pow_pos n) in
    bit-zero (2 ^ suc n - 1) ∙ rw odd (grind (arith, nat_tests))
bit-low (suc n) (suc k) =
    let half : (2 ^ suc n - 1) / 2 ≡ 2 ^ n - 1 = omega (arith, pow_pos n) in
    bit-suc (2 ^ suc n - 1) k ∙ rw half (bit-low n k ∙ grind (arith, nat_tests))

-- words with the same marks are equal
pub same-words : (n a b : ℕ) → a < 2 ^ n → b < 2 ^ n → ((k : ℕ) → k < n → bit a k ≡ bit b k) → a ≡ b
same-words zero a b h l same = omega arith
same-words (suc n) a b h l same =
    let low : eqb (a % 2) 1 ≡ eqb (b % 2) 1 = sym (bit-zero a) ∙ same 0 (omega arith) ∙ bit-zero b in
    let odd : a % 2 ≡ b % 2 = grind (arith, nat_tests) in
    let half : a / 2 ≡ b / 2 = same-words n (a / 2) (b / 2) (omega arith) (omega arith) (λ k m. sym (bit-suc a k) ∙ same (suc k) (omega arith) ∙ bit-suc b k) in
    omega arith

parity : (w : ℕ) → (w % 2 ≡ 0) ⊎ (w % 2 ≡ 1)
parity w = ⊎_elim (λ e. inl e) (λ e. inr (omega arith)) (cases_eq (w % 2) 0)

trailing_even : (n w : ℕ) → w % 2 ≡ 0 → count_trailing_zeros (suc n) w ≡ suc (count_trailing_zeros n (w / 2))
unfolding count_trailing_zeros
trailing_even n w even = rw even

trailing_odd : (n w : ℕ) → w % 2 ≡ 1 → count_trailing_zeros (suc n) w ≡ 0
unfolding count_trailing_zeros
trailing_odd n w odd = rw odd

-- below the lowest mark there is none, and there is one at it
pub bit-below-trailing : (n w k : ℕ) → k < count_trailing_zeros n w → bit w k ≡ false
unfolding count_trailing_zeros
bit-below-trailing zero w k h = absurd (omega arith)
bit-below-trailing (suc n) w zero h =
    ⊎_elim (λ even. bit-zero w ∙ rw even) (λ odd. absurd (omega (arith, trailing_odd n w odd))) (parity w)
bit-below-trailing (suc n) w (suc k) h =
    ⊎_elim
    (λ even. bit-suc w k ∙ bit-below-trailing n (w / 2) k (omega (arith, trailing_even n w even)))
    (λ odd. absurd (omega (arith, trailing_odd n w odd)))
    (parity w)

pub trailing_below : (n w : ℕ) → w < 2 ^ n → (w ≡ 0 → ⊥) → count_trailing_zeros n w < n
trailing_below zero w h some = absurd (some (omega arith))
trailing_below (suc n) w h some =
    ⊎_elim
    (λ even. omega (arith, trailing_even n w even, trailing_below n (w / 2) (omega arith) (λ e. some (omega arith))))
    (λ odd. omega (arith, trailing_odd n w odd))
    (parity w)

pub bit-at-trailing : (n w : ℕ) → count_trailing_zeros n w < n → bit w (count_trailing_zeros n w) ≡ true
bit-at-trailing zero w h = absurd (omega arith)
bit-at-trailing (suc n) w h =
    ⊎_elim
    (λ even. rw (trailing_even n w even, bit-suc w (count_trailing_zeros n (w / 2))) (bit-at-trailing n (w / 2) (omega (arith, trailing_even n w even))))
    (λ odd. rw (trailing_odd n w odd, bit-zero w, odd))
    (parity w)

eqb-suc : (a b : ℕ) → eqb (suc a) (suc b) ≡ eqb a b
eqb-suc a b = grind (arith, nat_tests)

-- `w & (w - 1)` is w without its lowest mark
pub bit-cleared : (n w k : ℕ) → w < 2 ^ n → (w ≡ 0 → ⊥) → bit (bit_and w (w - 1)) k ≡ (bit w k && not (eqb k (count_trailing_zeros n w)))
bit-cleared zero w k h some = absurd (some (omega arith))
bit-cleared (suc n) w zero h some =
    ⊎_elim
    (λ even. bit-and w (w - 1) 0 ∙ rw (bit-zero w) (rw even))
    (λ odd.
    let below : (w - 1) % 2 ≡ 0 = omega arith in
    bit-and w (w - 1) 0 ∙ rw (bit-zero (w - 1), below, trailing_odd n w odd) (rw (bit-zero w, odd)))
    (parity w)
bit-cleared (suc n) w (suc k) h some =
    ⊎_elim
    (λ even.
    let half : (w - 1) / 2 ≡ w / 2 - 1 = omega arith in
    let deeper = bit-cleared n (w / 2) k (omega arith) (λ e. some (omega arith)) in
    bit-and w (w - 1) (suc k)
    ∙ rw (bit-suc w k, bit-suc (w - 1) k, half, trailing_even n w even) (sym (bit-and (w / 2) (w / 2 - 1) k) ∙ deeper ∙ ap (λ t. bit (w / 2) k && not t) (sym (eqb-suc k (count_trailing_zeros n (w / 2))))))
    (λ odd.
    let half : (w - 1) / 2 ≡ w / 2 = omega arith in
    bit-and w (w - 1) (suc k) ∙ rw (bit-suc w k, bit-suc (w - 1) k, half, trailing_odd n w odd) (grind (arith, nat_tests)))
    (parity w)

-- how many numbers from a on pass, told from one number lower
length-kept-shifted : (p : ℕ → Bool) (a n : ℕ) → length (filter p (counting (suc a) n)) ≡ length (filter (λ k. p (suc k)) (counting a n))
length-kept-shifted p a zero = refl
length-kept-shifted p a (suc n) = grind (arith, length-kept-shifted p (suc a) n)

pub length-kept-from : (p : ℕ → Bool) (a n : ℕ) → length (filter p (counting a n)) ≡ length (filter (λ k. p (a + k)) (counting 0 n))
length-kept-from p zero n = ap (λ q. length (filter q (counting 0 n))) (fun_ext (λ k. ap p (omega arith)))
length-kept-from p (suc a) n =
    length-kept-shifted p a n ∙ length-kept-from (λ k. p (suc k)) a n ∙ ap (λ q. length (filter q (counting 0 n))) (fun_ext (λ k. ap p (omega arith)))

pub ones-counts : (n w : ℕ) → w < 2 ^ n → ones w ≡ length (filter (bit w) (counting 0 n))
ones-counts zero w h = omega (arith, ones-le 0 w h)
ones-counts (suc n) w h =
    let halved : (λ k. bit w (suc k)) ≡ bit (w / 2) = fun_ext (bit-suc w) in
    let rest : length (filter (bit w) (counting 1 n)) ≡ ones (w / 2) =
    length-kept-shifted (bit w) 0 n ∙ ap (λ p. length (filter p (counting 0 n))) halved ∙ sym (ones-counts n (w / 2) (omega arith)) in
    ones_step w ∙ rw (bit-zero w) (grind (arith, nat_tests))
