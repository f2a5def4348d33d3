-- From the marks of words to the members of a set. Assumes nothing.
use Rattle.std.proofs.Common.{◌≡◌, ℕ, zero, suc, ◌+◌, ◌-◌, ◌*◌, ◌/◌, ◌%◌, ◌^◌, ◌<◌, ◌≤◌, Bool, true, false, cond, not, ◌&&◌, ◌||◌, eqb, ltb, List, [], ◌∷◌, ◌++◌, length, get_or, set, Some, Decides, filter, sym, refl, ap, ◌∙◌, ⊎_elim, subst, arith, length-append, get_or-set_other, get_or-set_same, ext_get_or}
use lib.Bits.{bit_and, bit_or}
use lib.Count.{count_trailing_zeros}
use lib.Pow.{pow-lt}
use Rattle.std.specs.List.{sum_by}
use Rattle.std.proofs.lemmas.List.Elements.{filter-append}
use Rattle.std.proofs.lemmas.Bool.{cases_lt, cases_eq, lt-ltb, le-ltb, both_ways, cond-true}
use Rattle.std.proofs.lemmas.Bool.Decides.{nat_tests}
use Rattle.candidates.specs.declared.set.CandidateSet.{CandidateSet}
use Rattle.candidates.specs.Members.{bit, has, members}
use Rattle.candidates.specs.Sets.{is_in, From, Ascending, counting, inserted, removed, least}
use Rattle.candidates.proofs.Bits.{bit-none, bit-and, bit-or, bit-power, bit-complement, same-words, bit-below-trailing, trailing_below, bit-at-trailing, bit-cleared, length-kept-from}
use Rattle.candidates.proofs.Sets.{and_comm, is_in-kept-by, is_in-counting, is_in-inserted, inserted-last, from-kept-by, from-counting, from-inserted, same-sets, least-is, kept-by-same, counting-append, cons-from-removed, length-kept-counting}

-- ---- marks

-- the word that holds the mark of k
abbrev pub word : CandidateSet → ℕ → ℕ
word s q = get_or s.words q 0

pub has-inside : (s : CandidateSet) (k : ℕ) → k < 256 → has s k ≡ bit (word s (k / 64)) (k % 64)
unfolding has
has-inside s k h = rw (lt-ltb k 256 h)

pub has-outside : (s : CandidateSet) (k : ℕ) → 256 ≤ k → has s k ≡ false
unfolding has
has-outside s k h = rw (le-ltb k 256 h)

pub each-four : (P : ℕ → Type 0) → P 0 → P 1 → P 2 → P 3 → (q : ℕ) → q < 4 → P q
each-four P a b c d zero h = a
each-four P a b c d (suc zero) h = b
each-four P a b c d (suc (suc zero)) h = c
each-four P a b c d (suc (suc (suc zero))) h = d
each-four P a b c d (suc (suc (suc (suc q)))) h = absurd (omega arith)

-- s has four words, of 64 marks each
pub record Whole (s : CandidateSet) : Type 0 where
  pub four : length s.words ≡ 4
  pub narrow : (q : ℕ) → q < 4 → word s q < 2 ^ 64

-- a set whose words have the marks that f says has just the members that f says
pub has-by : (s : CandidateSet) (f : ℕ → Bool) → ((q j : ℕ) → q < 4 → j < 64 → bit (word s q) j ≡ f (64 * q + j)) → ((k : ℕ) → 256 ≤ k → f k ≡ false) → (k : ℕ) → has s k ≡ f k
has-by s f inside outside k =
    ⊎_elim
    (λ h.
    let place : 64 * (k / 64) + k % 64 ≡ k = omega arith in
    has-inside s k h ∙ inside (k / 64) (k % 64) (omega arith) (omega arith) ∙ ap f place)
    (λ h. has-outside s k h ∙ sym (outside k h))
    (cases_lt k 256)

pub has-at : (s : CandidateSet) (q j : ℕ) → q < 4 → j < 64 → has s (64 * q + j) ≡ bit (word s q) j
has-at s q j h l =
    let place : (64 * q + j) / 64 ≡ q = omega arith in
    let mark : (64 * q + j) % 64 ≡ j = omega arith in
    has-inside s (64 * q + j) (omega arith) ∙ (λ i. bit (word s (place i)) (mark i))

-- an operation on each pair of words, which does g to each pair of marks
pub has-paired : (s t : CandidateSet) (f : ℕ → ℕ → ℕ) (g : Bool → Bool → Bool) → ((q j : ℕ) → q < 4 → j < 64 → bit (f (word s q) (word t q)) j ≡ g (bit (word s q) j) (bit (word t q) j)) → g false false ≡ false → (k : ℕ) → has (record { words = f (word s 0) (word t 0) ∷ f (word s 1) (word t 1) ∷ f (word s 2) (word t 2) ∷ f (word s 3) (word t 3) ∷ [] }) k ≡ g (has s k) (has t k)
has-paired s t f g each none =
    has-by _ (λ k. g (has s k) (has t k))
    (λ q j h l.
    each-four (λ q. bit (get_or (f (word s 0) (word t 0) ∷ f (word s 1) (word t 1) ∷ f (word s 2) (word t 2) ∷ f (word s 3) (word t 3) ∷ []) q 0) j ≡ g (bit (word s q) j) (bit (word t q) j))
    (each 0 j (omega arith) l) (each 1 j (omega arith) l) (each 2 j (omega arith) l) (each 3 j (omega arith) l) q h
    ∙ (λ i. g (sym (has-at s q j h l) i) (sym (has-at t q j h l) i)))
    (λ k h. rw (has-outside s k h, has-outside t k h) none)

-- the word at place q changed to w
abbrev pub changed : CandidateSet → ℕ → ℕ → CandidateSet
changed s q w = record { words = set s.words q w }

pub has-changed : (s : CandidateSet) (q w k : ℕ) → length s.words ≡ 4 → k < 256 → k / 64 ≡ q → has (changed s q w) k ≡ bit w (k % 64)
has-changed s q w k four l here = has-inside (changed s q w) k l ∙ ap (λ x. bit x (k % 64)) (ap (λ p. get_or (set s.words q w) p 0) here ∙ get_or-set_same s.words q w 0 (omega arith))

pub has-unchanged : (s : CandidateSet) (q w k : ℕ) → k < 256 → (k / 64 ≡ q → ⊥) → has (changed s q w) k ≡ has s k
has-unchanged s q w k l there = has-inside (changed s q w) k l ∙ ap (λ x. bit x (k % 64)) (get_or-set_other s.words q (k / 64) w 0 there) ∙ sym (has-inside s k l)

-- ---- members

or-false : (b : Bool) → (b || false) ≡ b
or-false true = refl
or-false false = refl

pub and-true : (b : Bool) → (b && true) ≡ b
and-true true = refl
and-true false = refl

passing : (p : ℕ → Bool) (k n : ℕ) → is_in k (filter p (counting 0 n)) ≡ (p k && ltb k n)
passing p k n = is_in-kept-by p k (counting 0 n) ∙ rw (is_in-counting k 0 n) (grind (arith, nat_tests))

pub is_in-members : (s : CandidateSet) (k : ℕ) → is_in k (members s) ≡ has s k
unfolding members
is_in-members s k = passing (has s) k 256 ∙ ⊎_elim (λ h. rw (lt-ltb k 256 h) (and-true (has s k))) (λ h. rw (has-outside s k h)) (cases_lt k 256)

pub members-from : (s : CandidateSet) → From 0 (members s)
unfolding members
members-from s = from-kept-by (has s) 0 (counting 0 256) (from-counting 0 256)

pub members-below : (s : CandidateSet) (k : ℕ) → is_in k (members s) ≡ true → k < 256
members-below s k here = ⊎_elim (λ h. h) (λ h. absurd (both_ways (has s k) (has-outside s k h) (sym (is_in-members s k) ∙ here))) (cases_lt k 256)

pub length-members : (s : CandidateSet) → length (members s) ≤ 256
unfolding members
length-members s = length-kept-counting (has s) 256

-- the lowest member, and the set without it
pub members-lowest : (s r : CandidateSet) (v : ℕ) → Some v ≡ least (members s) → members r ≡ removed v (members s) → members s ≡ v ∷ members r
members-lowest s r v lowest others = cons-from-removed v (members s) (members-from s) lowest ∙ ap (λ l. v ∷ l) (sym others)

-- the members are any ascending list that has what the set has
pub members-by : (s : CandidateSet) (xs : List ℕ) → Ascending xs → ((k : ℕ) → has s k ≡ is_in k xs) → members s ≡ xs
members-by s xs up same = same-sets 0 0 (members s) xs (members-from s) up (λ k. is_in-members s k ∙ same k)

pub members_kept : (s r : CandidateSet) (p : ℕ → Bool) → ((k : ℕ) → has r k ≡ (has s k && p k)) → members r ≡ filter p (members s)
members_kept s r p marks =
    members-by r (filter p (members s)) (from-kept-by p 0 (members s) (members-from s))
    (λ k. marks k ∙ and_comm (has s k) (p k) ∙ ap (λ b. p k && b) (sym (is_in-members s k)) ∙ sym (is_in-kept-by p k (members s)))

pub members-added : (s r : CandidateSet) (v : ℕ) → v < 256 → ((k : ℕ) → has r k ≡ (has s k || (eqb k v && ltb k 256))) → members r ≡ inserted v (members s)
members-added s r v h marks =
    members-by r (inserted v (members s)) (from-inserted 0 v (members s) (members-from s) (omega arith))
    (λ k. marks k ∙ add (has s k) k ∙ ap (λ b. eqb k v || b) (sym (is_in-members s k)) ∙ sym (is_in-inserted k v (members s)))
  where
    add : (b : Bool) (k : ℕ) → (b || (eqb k v && ltb k 256)) ≡ (eqb k v || b)
    add b k = grind (arith, nat_tests)

-- what is above all members goes to the end
pub members-last : (s r : CandidateSet) (v : ℕ) → v < 256 → members r ≡ cond (ltb v 256) (inserted v (members s)) (members s) → ((k : ℕ) → is_in k (members s) ≡ true → k < v) → members r ≡ members s ++ v ∷ []
members-last s r v h is above = is ∙ cond-true (ltb v 256) (inserted v (members s)) (members s) (lt-ltb v 256 h) ∙ inserted-last v (members s) above

-- ---- one mark more, one mark less

same-mark : (v k : ℕ) → k / 64 ≡ v / 64 → eqb (k % 64) (v % 64) ≡ eqb k v
same-mark v k e = grind (arith, nat_tests)

other-mark : (v k : ℕ) → (k / 64 ≡ v / 64 → ⊥) → eqb k v ≡ false
other-mark v k d = grind (arith, nat_tests)

-- the word of v changed to w, whose marks are those of before but for v's
pub has-edited : (s : CandidateSet) (v w : ℕ) (f : Bool → Bool → Bool) → length s.words ≡ 4 → v < 256 → ((j : ℕ) → j < 64 → bit w j ≡ f (bit (word s (v / 64)) j) (eqb j (v % 64))) → ((b : Bool) → f b false ≡ b) → (k : ℕ) → has (changed s (v / 64) w) k ≡ f (has s k) (eqb k v)
has-edited s v w f four h marks same k =
    ⊎_elim
    (λ l. ⊎_elim
    (λ here.
    let before : bit (word s (v / 64)) (k % 64) ≡ has s k = ap (λ q. bit (word s q) (k % 64)) (sym here) ∙ sym (has-inside s k l) in
    has-changed s (v / 64) w k four l here ∙ marks (k % 64) (omega arith) ∙ (λ i. f (before i) (same-mark v k here i)))
    (λ there. has-unchanged s (v / 64) w k l there ∙ sym (same (has s k)) ∙ ap (f (has s k)) (sym (other-mark v k there)))
    (cases_eq (k / 64) (v / 64)))
    (λ l.
    let other : eqb k v ≡ false = grind (arith, nat_tests) in
    has-outside (changed s (v / 64) w) k l ∙ sym (has-outside s k l) ∙ sym (same (has s k)) ∙ ap (f (has s k)) (sym other))
    (cases_lt k 256)

pub has-added : (s : CandidateSet) (v w : ℕ) → length s.words ≡ 4 → v < 256 → w ≡ bit_or (word s (v / 64)) (2 ^ (v % 64)) → (k : ℕ) → has (changed s (v / 64) w) k ≡ (has s k || (eqb k v && ltb k 256))
has-added s v w four h e k =
    has-edited s v w (λ b m. b || m) four h (λ j l. ap (λ x. bit x j) e ∙ bit-or (word s (v / 64)) (2 ^ (v % 64)) j ∙ ap (λ m. bit (word s (v / 64)) j || m) (bit-power (v % 64) j)) or-false k
    ∙ ap (λ m. has s k || m) (narrowed k)
  where
    narrowed : (k : ℕ) → eqb k v ≡ (eqb k v && ltb k 256)
    narrowed k = grind (arith, nat_tests)

pub has-taken : (s : CandidateSet) (v w : ℕ) → length s.words ≡ 4 → v < 256 → w ≡ bit_and (word s (v / 64)) (2 ^ 64 - 1 - 2 ^ (v % 64)) → (k : ℕ) → has (changed s (v / 64) w) k ≡ (has s k && not (eqb k v))
has-taken s v w four h e =
    has-edited s v w (λ b m. b && not m) four h
    (λ j l. ap (λ x. bit x j) e ∙ bit-and (word s (v / 64)) (2 ^ 64 - 1 - 2 ^ (v % 64)) j
    ∙ ap (λ m. bit (word s (v / 64)) j && m) (bit-complement 64 (2 ^ (v % 64)) j (pow-lt {i = v % 64} {j = 64} (omega arith)) l ∙ ap not (bit-power (v % 64) j)))
    and-true

pub has-still : (s : CandidateSet) (v : ℕ) → 256 ≤ v → (k : ℕ) → has s k ≡ (has s k && not (eqb k v))
has-still s v h k = let out = has-outside s k in grind (arith, nat_tests)

-- ---- no member

pub nothing-from-words : (s : CandidateSet) → ((q : ℕ) → q < 4 → word s q ≡ 0) → members s ≡ []
nothing-from-words s zeros =
    members-by s [] tt
    (λ k. ⊎_elim
    (λ h. has-inside s k h ∙ ap (λ w. bit w (k % 64)) (zeros (k / 64) (omega arith)) ∙ bit-none (k % 64))
    (has-outside s k)
    (cases_lt k 256))

-- ---- the lowest member

pub lowest-in-word : (s : CandidateSet) (q : ℕ) → q < 4 → word s q < 2 ^ 64 → (word s q ≡ 0 → ⊥) → ((p : ℕ) → p < q → word s p ≡ 0) → least (members s) ≡ Some (64 * q + count_trailing_zeros 64 (word s q))
lowest-in-word s q h narrow some zeros =
    let t = count_trailing_zeros 64 (word s q) in
    let l : t < 64 = trailing_below 64 (word s q) narrow some in
    least-is 0 (64 * q + t) (members s) (members-from s)
    (is_in-members s (64 * q + t) ∙ has-at s q t h l ∙ bit-at-trailing 64 (word s q) l)
    (λ k lower. is_in-members s k ∙ has-inside s k (omega arith) ∙ ⊎_elim
    (λ before. ap (λ w. bit w (k % 64)) (zeros (k / 64) before) ∙ bit-none (k % 64))
    (λ reached.
    let here : k / 64 ≡ q = omega arith in
    ap (λ p. bit (word s p) (k % 64)) here ∙ bit-below-trailing 64 (word s q) (k % 64) (omega arith))
    (cases_lt (k / 64) q))

-- the lowest member and the others, which are left when the lowest mark of its word is taken
pub taken-from-word : (s : CandidateSet) (q : ℕ) → length s.words ≡ 4 → q < 4 → word s q < 2 ^ 64 → (word s q ≡ 0 → ⊥) → ((p : ℕ) → p < q → word s p ≡ 0) → members s ≡ (64 * q + count_trailing_zeros 64 (word s q)) ∷ members (changed s q (bit_and (word s q) (word s q - 1)))
taken-from-word s q four h narrow some zeros =
    let w = word s q in
    let t = count_trailing_zeros 64 w in
    let l : t < 64 = trailing_below 64 w narrow some in
    let v : ℕ = 64 * q + t in
    let place : v / 64 ≡ q = omega arith in
    let mark : v % 64 ≡ t = omega arith in
    let marks = subst (λ p. (k : ℕ) → has (changed s p (bit_and w (w - 1))) k ≡ (has s k && not (eqb k v))) place
    (has-edited s v (bit_and w (w - 1)) (λ b m. b && not m) four (omega arith)
    (λ j _. bit-cleared 64 w j narrow some ∙ (λ i. bit (word s (sym place i)) j && not (eqb j (sym mark i)))) and-true) in
    members-lowest s _ v (sym (lowest-in-word s q h narrow some zeros)) (members_kept s _ (λ k. not (eqb k v)) marks)

-- ---- how many

-- how many of the lowest n marks a word has
abbrev pub marks_of : ℕ → ℕ → ℕ
marks_of n w = length (filter (bit w) (counting 0 n))

-- how many of the n numbers from a on pass, where word w has a mark for each
counted : (p : ℕ → Bool) (w a n : ℕ) → ((j : ℕ) → j < n → p (a + j) ≡ bit w j) → length (filter p (counting a n)) ≡ marks_of n w
counted p w a n marks =
    length-kept-from p a n
    ∙ ap length (kept-by-same (λ j. p (a + j)) (bit w) (counting 0 n) (λ j here. marks j (in-counting j n here)))
  where
    in-counting : (j n : ℕ) → is_in j (counting 0 n) ≡ true → j < n
    in-counting j n here = let e = is_in-counting j 0 n in grind (arith, nat_tests)

length-kept-two : (p : ℕ → Bool) (a m n : ℕ) → length (filter p (counting a (m + n))) ≡ length (filter p (counting a m)) + length (filter p (counting (a + m) n))
length-kept-two p a m n =
    ap (λ l. length (filter p l)) (counting-append a m n)
    ∙ ap length (filter-append p (counting a m) (counting (a + m) n))
    ∙ length-append (filter p (counting a m)) (filter p (counting (a + m) n))

four-words : (p : ℕ → Bool) (n a b c d : ℕ) → ((j : ℕ) → j < n → p (0 + j) ≡ bit a j) → ((j : ℕ) → j < n → p (0 + n + j) ≡ bit b j) → ((j : ℕ) → j < n → p (0 + n + n + j) ≡ bit c j) → ((j : ℕ) → j < n → p (0 + n + n + n + j) ≡ bit d j) → length (filter p (counting 0 (n + (n + (n + n))))) ≡ marks_of n a + marks_of n b + marks_of n c + marks_of n d
four-words p n a b c d ma mb mc md =
    let A = counted p a 0 n ma in
    let B = counted p b (0 + n) n mb in
    let C = counted p c (0 + n + n) n mc in
    let D = counted p d (0 + n + n + n) n md in
    omega (arith, length-kept-two p 0 n (n + (n + n)), length-kept-two p (0 + n) n (n + n), length-kept-two p (0 + n + n) n n)

sum-four : (h : ℕ → ℕ) (ws : List ℕ) → length ws ≡ 4 → sum_by h ws ≡ h (get_or ws 0 0) + h (get_or ws 1 0) + h (get_or ws 2 0) + h (get_or ws 3 0)
sum-four h [] four = absurd (omega arith)
sum-four h (a ∷ []) four = absurd (omega arith)
sum-four h (a ∷ b ∷ []) four = absurd (omega arith)
sum-four h (a ∷ b ∷ c ∷ []) four = absurd (omega arith)
sum-four h (a ∷ b ∷ c ∷ d ∷ []) four = omega arith
sum-four h (a ∷ b ∷ c ∷ d ∷ e ∷ ws) four = absurd (omega arith)

pub count-words : (s : CandidateSet) → length s.words ≡ 4 → sum_by (marks_of 64) s.words ≡ length (members s)
unfolding members
count-words s four =
    sum-four (marks_of 64) s.words four
    ∙ sym (four-words (has s) 64 (word s 0) (word s 1) (word s 2) (word s 3) (λ j l. has-at s 0 j (omega arith) l) (λ j l. has-at s 1 j (omega arith) l) (λ j l. has-at s 2 j (omega arith) l) (λ j l. has-at s 3 j (omega arith) l))

-- ---- sets with the same members are the same value

same_set : (s t : CandidateSet) → Whole s → Whole t → ((q : ℕ) → q < 4 → word s q ≡ word t q) → s ≡ t
same_set s t a b same =
    let long = a.four in
    let also = b.four in
    ap (λ (ws : List ℕ). record { words = ws }) (ext_get_or 0 s.words t.words (omega arith) (λ q h. same q (omega arith)))

same-from-members : (s t : CandidateSet) → Whole s → Whole t → members s ≡ members t → (q : ℕ) → q < 4 → word s q ≡ word t q
same-from-members s t a b same q h =
    same-words 64 (word s q) (word t q) (a.narrow q h) (b.narrow q h)
    (λ j l.
    let k : ℕ = 64 * q + j in
    sym (has-at s q j h l) ∙ sym (is_in-members s k) ∙ ap (is_in k) same ∙ is_in-members t k ∙ has-at t q j h l)

pub same-decides : (s t : CandidateSet) → Whole s → Whole t → (r : Bool) → Decides r ((q : ℕ) → q < 4 → word s q ≡ word t q) → Decides r (members s ≡ members t) × Decides r (s ≡ t)
same-decides s t a b r d = (
  (λ e. ap members (same_set s t a b (d.0 e)), λ e. d.1 (same-from-members s t a b e)),
  (λ e. same_set s t a b (d.0 e), λ e. d.1 (λ q h. ap (λ x. word x q) e)),
)

pub four-decide : (s t : CandidateSet) → Decides (((eqb (word s 0) (word t 0) && eqb (word s 1) (word t 1)) && eqb (word s 2) (word t 2)) && eqb (word s 3) (word t 3)) ((q : ℕ) → q < 4 → word s q ≡ word t q)
four-decide s t = (
  λ e. each-four (λ q. word s q ≡ word t q) (grind (arith, nat_tests)) (grind (arith, nat_tests)) (grind (arith, nat_tests)) (grind (arith, nat_tests)),
  λ same.
      let a = same 0 (omega arith) in
      let b = same 1 (omega arith) in
      let c = same 2 (omega arith) in
      let d = same 3 (omega arith) in
      grind (arith, nat_tests),
)
