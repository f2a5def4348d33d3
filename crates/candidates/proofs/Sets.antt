-- Lemmas on sets as ascending lists.
use Rattle.std.proofs.Common.{◌≡◌, ℕ, zero, suc, ◌+◌, ◌<◌, ◌≤◌, Bool, true, false, cond, not, ◌&&◌, ◌||◌, eqb, ltb, leb, List, [], ◌∷◌, ◌++◌, length, is_some, Some, None, filter, sym, refl, ap, ◌∙◌, subst, ⊎_elim, arith}
use Rattle.std.proofs.lemmas.Bool.{false≢true, cond_both, cond-true, cond-false, eqb-true, ltb-true, or_right, cases_lt, cases_eq}
use Rattle.std.proofs.lemmas.Bool.Decides.{nat_tests}
use Rattle.candidates.specs.Sets.{is_in, Within, From, Ascending, counting, inserted, removed, least, Sub}
use Rattle.candidates.specs.Sets.Sub.{none, skip, keep}

pub and_comm : (a b : Bool) → (a && b) ≡ (b && a)
and_comm true true = refl
and_comm true false = refl
and_comm false true = refl
and_comm false false = refl

pub in-first : (x : ℕ) (xs : List ℕ) → is_in x (x ∷ xs) ≡ true
in-first x xs = grind (arith, nat_tests)

pub in_rest : (k x : ℕ) (xs : List ℕ) → is_in k xs ≡ true → is_in k (x ∷ xs) ≡ true
in_rest k x xs e = or_right (eqb k x) (is_in k xs) e

pub is_in-append : (k : ℕ) (xs ys : List ℕ) → is_in k (xs ++ ys) ≡ (is_in k xs || is_in k ys)
is_in-append k [] ys = refl
is_in-append k (x ∷ xs) ys = let more = is_in-append k xs ys in grind (arith, nat_tests)

pub is_in-kept-by : (p : ℕ → Bool) (k : ℕ) (xs : List ℕ) → is_in k (filter p xs) ≡ (p k && is_in k xs)
is_in-kept-by p k [] = grind (arith, nat_tests)
is_in-kept-by p k (x ∷ xs) =
    let more = is_in-kept-by p k xs in
    let same : eqb k x ≡ true → p k ≡ p x = λ e. ap p (eqb-true k x e) in
    cond_both (p x) (x ∷ filter p xs) (filter p xs) (λ l. is_in k l ≡ (p k && (eqb k x || is_in k xs)))
    (λ t. grind (arith, nat_tests))
    (λ f. grind (arith, nat_tests))

pub from-weaker : (a b : ℕ) (xs : List ℕ) → From a xs → b ≤ a → From b xs
from-weaker a b [] h le = tt
from-weaker a b (x ∷ xs) h le = (omega arith, h.1)

pub not-in-below : (a k : ℕ) (xs : List ℕ) → From a xs → k < a → is_in k xs ≡ false
not-in-below a k [] h lt = refl
not-in-below a k (x ∷ xs) h lt =
    let more = not-in-below (suc x) k xs h.1 (omega arith) in
    let low = h.0 in
    grind (arith, nat_tests)

pub in-from : (a k : ℕ) (xs : List ℕ) → From a xs → is_in k xs ≡ true → a ≤ k
in-from a k xs h e = ⊎_elim (λ lt. let no' = not-in-below a k xs h lt in absurd (grind (arith, nat_tests))) (λ le. le) (cases_lt k a)

pub from-kept-by : (p : ℕ → Bool) (a : ℕ) (xs : List ℕ) → From a xs → From a (filter p xs)
from-kept-by p a [] h = tt
from-kept-by p a (x ∷ xs) h =
    let more = from-kept-by p (suc x) xs h.1 in
    cond_both (p x) (x ∷ filter p xs) (filter p xs) (From a) (λ _. (h.0, more)) (λ _. from-weaker (suc x) a (filter p xs) more (omega arith))

pub from-counting : (a n : ℕ) → From a (counting a n)
from-counting a zero = tt
from-counting a (suc n) = (omega arith, from-counting (suc a) n)

pub is_in-counting : (k a n : ℕ) → is_in k (counting a n) ≡ (leb a k && ltb k (a + n))
is_in-counting k a zero = grind (arith, nat_tests)
is_in-counting k a (suc n) = let more = is_in-counting k (suc a) n in grind (arith, nat_tests)

pub counting-append : (a m n : ℕ) → counting a (m + n) ≡ counting a m ++ counting (a + m) n
counting-append a zero n =
    let start : a ≡ a + 0 = omega arith in
    let count : 0 + n ≡ n = omega arith in
    λ i. counting (start i) (count i)
counting-append a (suc m) n =
    let start : suc a + m ≡ a + suc m = omega arith in
    let count : suc m + n ≡ suc (m + n) = omega arith in
    ap (counting a) count ∙ ap (λ l. a ∷ l) (counting-append (suc a) m n ∙ ap (λ b. counting (suc a) m ++ counting b n) start)

pub counting-next : (a n : ℕ) → counting a (suc n) ≡ counting a n ++ (a + n) ∷ []
counting-next a n = let count : suc n ≡ n + 1 = omega arith in ap (counting a) count ∙ counting-append a n 1

pub length-counting : (a n : ℕ) → length (counting a n) ≡ n
length-counting a zero = refl
length-counting a (suc n) = ap suc (length-counting (suc a) n)

-- two ascending lists with the same members are equal
pub same-sets : (a b : ℕ) (xs ys : List ℕ) → From a xs → From b ys → ((k : ℕ) → is_in k xs ≡ is_in k ys) → xs ≡ ys
same-sets a b [] [] h g same = refl
same-sets a b [] (y ∷ ys) h g same = let at = same y in absurd (grind (arith, nat_tests))
same-sets a b (x ∷ xs) [] h g same = let at = same x in absurd (grind (arith, nat_tests))
same-sets a b (x ∷ xs) (y ∷ ys) h g same =
    let out = λ (k : ℕ). not-in-below (suc x) k xs h.1 in
    let out' = λ (k : ℕ). not-in-below (suc y) k ys g.1 in
    let first : x ≡ y = grind (arith, nat_tests, same x, same y, out y, out' x) in
    let rest = same-sets (suc x) (suc y) xs ys h.1 g.1 (λ k. grind (arith, nat_tests, same k, out k, out' k)) in
    λ i. first i ∷ rest i

pub is_in-inserted : (k v : ℕ) (xs : List ℕ) → is_in k (inserted v xs) ≡ (eqb k v || is_in k xs)
is_in-inserted k v [] = refl
is_in-inserted k v (x ∷ xs) =
    let more = is_in-inserted k v xs in
    let P : List ℕ → Type 0 = λ l. is_in k l ≡ (eqb k v || (eqb k x || is_in k xs)) in
    cond_both (ltb v x) (v ∷ (x ∷ xs)) (cond (eqb v x) (x ∷ xs) (x ∷ inserted v xs)) P
    (λ _. refl)
    (λ _. cond_both (eqb v x) (x ∷ xs) (x ∷ inserted v xs) P (λ e. grind (arith, nat_tests)) (λ e. grind (arith, nat_tests)))

pub from-inserted : (a v : ℕ) (xs : List ℕ) → From a xs → a ≤ v → From a (inserted v xs)
from-inserted a v [] h le = (le, tt)
from-inserted a v (x ∷ xs) h le =
    cond_both (ltb v x) (v ∷ (x ∷ xs)) (cond (eqb v x) (x ∷ xs) (x ∷ inserted v xs)) (From a)
    (λ e. (le, (ltb-true v x e, h.1)))
    (λ e. cond_both (eqb v x) (x ∷ xs) (x ∷ inserted v xs) (From a) (λ _. h) (λ d. (h.0, from-inserted (suc x) v xs h.1 (grind (arith, nat_tests)))))

-- above all members it goes to the end
pub inserted-last : (v : ℕ) (xs : List ℕ) → ((k : ℕ) → is_in k xs ≡ true → k < v) → inserted v xs ≡ xs ++ v ∷ []
inserted-last v [] above = refl
inserted-last v (x ∷ xs) above =
    let low : x < v = above x (in-first x xs) in
    let more = inserted-last v xs (λ k e. above k (in_rest k x xs e)) in
    cond-false (ltb v x) (v ∷ (x ∷ xs)) (cond (eqb v x) (x ∷ xs) (x ∷ inserted v xs)) (grind (arith, nat_tests))
    ∙ cond-false (eqb v x) (x ∷ xs) (x ∷ inserted v xs) (grind (arith, nat_tests))
    ∙ ap (λ l. x ∷ l) more

-- tests that agree on the members keep the same
pub kept-by-same : (p q : ℕ → Bool) (xs : List ℕ) → ((k : ℕ) → is_in k xs ≡ true → p k ≡ q k) → filter p xs ≡ filter q xs
kept-by-same p q [] same = refl
kept-by-same p q (x ∷ xs) same =
    let first = same x (in-first x xs) in
    let more = kept-by-same p q xs (λ k e. same k (in_rest k x xs e)) in
    λ i. cond (first i) (x ∷ more i) (more i)

pub kept-by-all : (p : ℕ → Bool) (xs : List ℕ) → ((k : ℕ) → is_in k xs ≡ true → p k ≡ true) → filter p xs ≡ xs
kept-by-all p xs all = kept-by-same p (λ _. true) xs all ∙ every xs
  where
    every : (ys : List ℕ) → filter (λ _. true) ys ≡ ys
    every [] = refl
    every (y ∷ ys) = ap (λ l. y ∷ l) (every ys)

pub removed-first : (v : ℕ) (xs : List ℕ) → From (suc v) xs → removed v (v ∷ xs) ≡ xs
removed-first v xs h =
    cond-false (not (eqb v v)) (v ∷ removed v xs) (removed v xs) (grind (arith, nat_tests))
    ∙ kept-by-all (λ x. not (eqb x v)) xs (λ k e. let above = in-from (suc v) k xs h e in grind (arith, nat_tests))

pub sub-none : (ys : List ℕ) → Sub [] ys
sub-none [] = none
sub-none (y ∷ ys) = skip (sub-none ys)

pub within-from-sub : {xs ys : List ℕ} → Sub xs ys → Within xs ys
within-from-sub none k e = e
within-from-sub (skip {y = y} {ys = ys} s) k e = in_rest k y ys (within-from-sub s k e)
within-from-sub (keep {x = x} {xs = xs} {ys = ys} s) k e =
    let more = within-from-sub s k in
    grind (arith, nat_tests)

pub sub-from-within : (a b : ℕ) (xs ys : List ℕ) → From a xs → From b ys → Within xs ys → Sub xs ys
sub-from-within a b [] ys h g within = sub-none ys
sub-from-within a b (x ∷ xs) [] h g within = let at = within x (in-first x xs) in absurd (grind (arith, nat_tests))
sub-from-within a b (x ∷ xs) (y ∷ ys) h g within =
    let here = within x (in-first x xs) in
    let below = not-in-below (suc y) x ys g.1 in
    let above = λ (k : ℕ). in-from (suc x) k xs h.1 in
    ⊎_elim
    (λ e. subst (λ z. Sub (x ∷ xs) (z ∷ ys)) e (keep (sub-from-within (suc x) (suc y) xs ys h.1 g.1 (λ k d. grind (arith, nat_tests, within k, above k)))))
    (λ n. skip (sub-from-within a (suc y) (x ∷ xs) ys h g.1 (λ k d. grind (arith, nat_tests, within k, above k))))
    (cases_eq x y)

pub sub-kept-by : (p : ℕ → Bool) (xs : List ℕ) → Sub (filter p xs) xs
sub-kept-by p [] = none
sub-kept-by p (x ∷ xs) =
    let more = sub-kept-by p xs in
    cond_both (p x) (x ∷ filter p xs) (filter p xs) (λ l. Sub l (x ∷ xs)) (λ _. keep more) (λ _. skip more)

-- a part of which all pass is a part of what passes
pub kept-by-sub : (p : ℕ → Bool) {xs ys : List ℕ} → Sub xs ys → ((k : ℕ) → is_in k xs ≡ true → p k ≡ true) → Sub xs (filter p ys)
kept-by-sub p none all = none
kept-by-sub p (skip {y = y} {xs = xs} {ys = ys} s) all =
    let more = kept-by-sub p s all in
    cond_both (p y) (y ∷ filter p ys) (filter p ys) (Sub xs) (λ _. skip more) (λ _. more)
kept-by-sub p (keep {x = x} {xs = xs} {ys = ys} s) all =
    let more = kept-by-sub p s (λ k e. all k (in_rest k x xs e)) in
    subst (Sub (x ∷ xs)) (sym (cond-true (p x) (x ∷ filter p ys) (filter p ys) (all x (in-first x xs)))) (keep more)

pub sub_trans : {xs ys zs : List ℕ} → Sub xs ys → Sub ys zs → Sub xs zs
sub_trans s none = s
sub_trans s (skip t) = skip (sub_trans s t)
sub_trans (skip s) (keep t) = skip (sub_trans s t)
sub_trans (keep s) (keep t) = keep (sub_trans s t)

pub length-sub : {xs ys : List ℕ} → Sub xs ys → length xs ≤ length ys
length-sub none = omega arith
length-sub (skip s) = omega (arith, length-sub s)
length-sub (keep s) = omega (arith, length-sub s)

pub from-sub : (a : ℕ) {xs ys : List ℕ} → From a ys → Sub xs ys → From a xs
from-sub a h none = tt
from-sub a h (skip {y = y} {xs = xs} s) = from-weaker (suc y) a xs (from-sub (suc y) h.1 s) (omega arith)
from-sub a h (keep {x = x} s) = (h.0, from-sub (suc x) h.1 s)

pub from-above : (a : ℕ) (xs : List ℕ) → Ascending xs → ((k : ℕ) → is_in k xs ≡ true → a ≤ k) → From a xs
from-above a [] h above = tt
from-above a (x ∷ xs) h above = (above x (in-first x xs), h.1)

pub least-is : (a v : ℕ) (xs : List ℕ) → From a xs → is_in v xs ≡ true → ((k : ℕ) → k < v → is_in k xs ≡ false) → least xs ≡ Some v
least-is a v [] h here below = absurd (false≢true here)
least-is a v (x ∷ xs) h here below =
    let above = in-from (suc x) v xs h.1 in
    let first = below x in
    let same : x ≡ v = grind (arith, nat_tests) in
    ap Some same

-- the lowest member and all others
pub cons-from-least : (v : ℕ) (xs ys : List ℕ) → Ascending xs → Ascending ys → is_in v xs ≡ true → ((k : ℕ) → is_in k xs ≡ true → v ≤ k) → ((k : ℕ) → is_in k ys ≡ (is_in k xs && not (eqb k v))) → xs ≡ v ∷ ys
cons-from-least v xs ys up also here lowest others =
    same-sets 0 0 xs (v ∷ ys) up
    (omega arith, from-above (suc v) ys also (λ k e. let o = others k in let low = lowest k in grind (arith, nat_tests)))
    (λ k. let o = others k in let same : eqb k v ≡ true → is_in k xs ≡ true = λ e. ap (λ j. is_in j xs) (eqb-true k v e) ∙ here in grind (arith, nat_tests))

pub nothing-from-least : (xs : List ℕ) → None ≡ least xs → xs ≡ []
nothing-from-least [] is = refl
nothing-from-least (x ∷ xs) is = absurd (false≢true (ap is_some is))

pub cons-from-removed : (v : ℕ) (xs : List ℕ) → Ascending xs → Some v ≡ least xs → xs ≡ v ∷ removed v xs
cons-from-removed v [] up is = absurd (false≢true (ap is_some (sym is)))
cons-from-removed v (x ∷ xs) up is =
    let same : x ≡ v = cc in
    subst (λ z. x ∷ xs ≡ z ∷ removed z (x ∷ xs)) same (ap (λ l. x ∷ l) (sym (removed-first x xs up.1)))

-- a part of n numbers in a row has at most n members
pub length-kept-counting : (p : ℕ → Bool) (n : ℕ) → length (filter p (counting 0 n)) ≤ n
length-kept-counting p n = omega (arith, length-sub (sub-kept-by p (counting 0 n)), length-counting 0 n)
