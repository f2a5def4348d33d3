-- The steps of a walk through a set. Assumes nothing.
use Rattle.std.proofs.Common.{◌≡◌, ℕ, suc, ◌+◌, ◌-◌, ◌*◌, ◌/◌, ◌%◌, ◌^◌, ◌<◌, ◌≤◌, true, false, not, ◌&&◌, eqb, leb, [], ◌∷◌, length, get_or, set, sym, ap, ◌∙◌, subst, inl, inr, ⊎_elim, arith}
use lib.Bits.{bit_and}
use lib.Count.{count_trailing_zeros}
use Rattle.std.proofs.lemmas.List.{set-get_or}
use Rattle.std.proofs.lemmas.Bool.{cases_lt, cases_order, lt-leb, le-leb, both_ways}
use Rattle.std.proofs.lemmas.Bool.Decides.{nat_tests}
use Rattle.candidates.specs.declared.cursor.Members.{Members}
use Rattle.candidates.specs.declared.set.CandidateSet.{CandidateSet}
use Rattle.candidates.specs.Members.{bit, has, members}
use Rattle.candidates.specs.Sets.{is_in, Ascending}
use Rattle.candidates.specs.Walk.{current, remaining}
use Rattle.candidates.proofs.Bits.{bit-none, bit-cleared, bit-below-trailing, trailing_below, bit-at-trailing}
use Rattle.candidates.proofs.Marks.{has-changed, has-unchanged, has-inside, has-outside, is_in-members, members-from, and-true}
use Rattle.candidates.proofs.Sets.{in-first, not-in-below, is_in-kept-by, from-kept-by, kept-by-all, same-sets, cons-from-least}

-- the set that is walked through
abbrev whole : Members → CandidateSet
whole s = record { words = s.words }

is_in-remaining : (s : Members) (k : ℕ) → is_in k (remaining s) ≡ (leb (64 * s.place) k && has (current s) k)
unfolding remaining
is_in-remaining s k = is_in-kept-by (leb (64 * s.place)) k (members (current s)) ∙ ap (λ b. leb (64 * s.place) k && b) (is_in-members (current s) k)

remaining-rises : (s : Members) → Ascending (remaining s)
unfolding remaining
remaining-rises s = from-kept-by (leb (64 * s.place)) 0 (members (current s)) (members-from (current s))

-- in the current word, and behind it
remaining-here : (s : Members) (k : ℕ) → length s.words ≡ 4 → k < 256 → k / 64 ≡ s.place → is_in k (remaining s) ≡ bit s.word (k % 64)
remaining-here s k four h here =
    let reached : leb (64 * s.place) k ≡ true = le-leb (64 * s.place) k (omega arith) in
    is_in-remaining s k ∙ rw reached (has-changed (whole s) s.place s.word k four h here)

remaining-behind : (s : Members) (k : ℕ) → k < 256 → s.place < k / 64 → is_in k (remaining s) ≡ has (whole s) k
remaining-behind s k h behind =
    let reached : leb (64 * s.place) k ≡ true = le-leb (64 * s.place) k (omega arith) in
    is_in-remaining s k ∙ rw reached (has-unchanged (whole s) s.place s.word k h (λ e. omega arith))

remaining-before : (s : Members) (k : ℕ) → k / 64 < s.place → is_in k (remaining s) ≡ false
remaining-before s k before =
    let passed : leb (64 * s.place) k ≡ false = lt-leb (64 * s.place) k (omega arith) in
    is_in-remaining s k ∙ rw passed

remaining-outside : (s : Members) (k : ℕ) → 256 ≤ k → is_in k (remaining s) ≡ false
remaining-outside s k h = is_in-remaining s k ∙ ap (λ b. leb (64 * s.place) k && b) (has-outside (current s) k h) ∙ grind (arith, nat_tests)

-- where a number stands: past the last, before the current word, in it, or behind it
by_place : (s : Members) (k : ℕ) (P : Type 0) → (256 ≤ k → P) → (k / 64 < s.place → P) → (k < 256 → k / 64 ≡ s.place → P) → (k < 256 → s.place < k / 64 → P) → P
by_place s k P outside before here behind =
    ⊎_elim
    (λ h. elim (cases_order (k / 64) s.place) [ inl e ↦ here h e | inr (inl l) ↦ before l | inr (inr l) ↦ behind h l ])
    outside
    (cases_lt k 256)

pub remaining-first : (s : Members) → s.place ≡ 0 → s.word ≡ get_or s.words 0 0 → remaining s ≡ members (whole s)
unfolding remaining
remaining-first s first is =
    kept-by-all (leb (64 * s.place)) (members (current s)) (λ k _. le-leb (64 * s.place) k (omega arith))
    ∙ ap (λ ws. members (record { words = ws })) ((λ i. set s.words (first i) (is i)) ∙ set-get_or s.words 0 0)

pub remaining-none : (s : Members) → length s.words ≡ 4 → s.word ≡ 0 → s.place ≡ 3 → remaining s ≡ []
remaining-none s four empty last =
    same-sets 0 0 (remaining s) [] (remaining-rises s) tt
    (λ k. by_place s k _
    (remaining-outside s k)
    (remaining-before s k)
    (λ h here. remaining-here s k four h here ∙ ap (λ w. bit w (k % 64)) empty ∙ bit-none (k % 64))
    (λ h behind. absurd (omega arith)))

-- on to the next word
pub remaining-on : (s t : Members) → length s.words ≡ 4 → s.word ≡ 0 → t.words ≡ s.words → t.place ≡ s.place + 1 → t.word ≡ get_or s.words (s.place + 1) 0 → remaining t ≡ remaining s
remaining-on s t four empty words place word =
    let also : length t.words ≡ 4 = ap length words ∙ four in
    same-sets 0 0 (remaining t) (remaining s) (remaining-rises t) (remaining-rises s)
    (λ k. by_place s k _
    (λ h. remaining-outside t k h ∙ sym (remaining-outside s k h))
    (λ l. remaining-before t k (omega arith) ∙ sym (remaining-before s k l))
    (λ h here. remaining-before t k (omega arith) ∙ sym (remaining-here s k four h here ∙ ap (λ w. bit w (k % 64)) empty ∙ bit-none (k % 64)))
    (λ h behind. by_place t k _
    (λ l. absurd (omega arith))
    (λ l. absurd (omega arith))
    (λ _ here.
    let next : k / 64 ≡ s.place + 1 = here ∙ place in
    remaining-here t k also h here ∙ ap (λ w. bit w (k % 64)) (word ∙ ap (λ q. get_or s.words q 0) (sym next)) ∙ sym (has-inside (whole s) k h) ∙ sym (remaining-behind s k h behind))
    (λ _ further. remaining-behind t k h further ∙ ap (λ ws. has (record { words = ws }) k) words ∙ sym (remaining-behind s k h behind))))

-- the lowest mark of the current word is taken
pub remaining-taken : (s t : Members) → length s.words ≡ 4 → s.word < 2 ^ 64 → (s.word ≡ 0 → ⊥) → t.words ≡ s.words → t.place ≡ s.place → t.word ≡ bit_and s.word (s.word - 1) → remaining s ≡ (64 * s.place + count_trailing_zeros 64 s.word) ∷ remaining t
remaining-taken s t four narrow some words place word =
    let also : length t.words ≡ 4 = ap length words ∙ four in
    let z = count_trailing_zeros 64 s.word in
    let v : ℕ = 64 * s.place + z in
    let low : z < 64 = trailing_below 64 s.word narrow some in
    let inside = s.inside in
    let mark : v % 64 ≡ z = omega arith in
    cons-from-least v (remaining s) (remaining t) (remaining-rises s) (remaining-rises t)
    (remaining-here s v four (omega arith) (omega arith) ∙ ap (bit s.word) mark ∙ bit-at-trailing 64 s.word low)
    (λ k e. ⊎_elim
    (λ lower. absurd (both_ways (is_in k (remaining s)) (by_place s k _
    (remaining-outside s k)
    (remaining-before s k)
    (λ h here. remaining-here s k four h here ∙ bit-below-trailing 64 s.word (k % 64) (omega arith))
    (λ h behind. absurd (omega arith))) e))
    (λ h. h)
    (cases_lt k v))
    (λ k. by_place s k _
    (λ h. remaining-outside t k h ∙ ap (λ b. b && not (eqb k v)) (sym (remaining-outside s k h)))
    (λ l. remaining-before t k (omega arith) ∙ ap (λ b. b && not (eqb k v)) (sym (remaining-before s k l)))
    (λ h here.
    let same : eqb (k % 64) z ≡ eqb k v = grind (arith, nat_tests) in
    remaining-here t k also h (here ∙ sym place) ∙ ap (λ w. bit w (k % 64)) word ∙ bit-cleared 64 s.word (k % 64) narrow some
    ∙ (λ i. sym (remaining-here s k four h here) i && not (same i)))
    (λ h behind.
    let other : eqb k v ≡ false = grind (arith, nat_tests) in
    remaining-behind t k h (omega arith) ∙ ap (λ ws. has (record { words = ws }) k) words ∙ sym (remaining-behind s k h behind) ∙ sym (and-true (is_in k (remaining s))) ∙ ap (λ b. is_in k (remaining s) && not b) (sym other)))

-- ---- what a walk gives: numbers below 256, each once

pub remaining-below : (s : Members) (k : ℕ) → is_in k (remaining s) ≡ true → k < 256
remaining-below s k e = ⊎_elim (λ h. h) (λ h. absurd (both_ways (is_in k (remaining s)) (remaining-outside s k h) e)) (cases_lt k 256)

pub next-below : (s t : Members) (v : ℕ) → remaining s ≡ v ∷ remaining t → v < 256
next-below s t v next = remaining-below s v (subst (λ l. is_in v l ≡ true) (sym next) (in-first v (remaining t)))

pub next-once : (s t : Members) (v : ℕ) → remaining s ≡ v ∷ remaining t → is_in v (remaining t) ≡ false
next-once s t v next = not-in-below (suc v) v (remaining t) (subst Ascending next (remaining-rises s)).1 (omega arith)
