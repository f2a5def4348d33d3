-- The classes of the colour rule: no two of one fit, and each candidate is in one of them.
use Rattle.std.specs.Prelude.{◌≡◌, ℕ, zero, suc, ◌<◌, ◌≤◌, Bool, true, false, not, List, [], ◌∷◌, map, length, filter, ◌==◌, slice_index_or, refl}
use Rattle.std.proofs.Common.{inl, inr, sym, ap, subst, ◌∙◌, arith}
use Rattle.std.proofs.lemmas.Bool.{or_cases, and_from, and_parts, not-true, not_from_true, not_from_false, both_ways, cases_Bool, eqb-true, cond_both, false≢true}
use Rattle.candidates.specs.Sets.{is_in, Within, removed, without}
use Rattle.candidates.proofs.Sets.{in-first, is_in-kept-by, sub-kept-by, length-sub}
use Rattle.sheets.specs.Meaning.{Meaning, Lawful}
use Rattle.rules.specs.Least.{least_by, least_by-in}
use Rattle.rules.specs.Colour.{started, joinable, class, class_of, raised, coloured, classes, Independent, Partition}

in-joinable : (m : Meaning) (v k : ℕ) (xs : List ℕ) → is_in k (joinable m v xs) ≡ true → (m.fit v k ≡ false) × (is_in k xs ≡ true)
in-joinable m v k xs e =
    let (apart, e₁) = and_parts (not (m.fit v k)) (is_in k (removed v xs)) (sym (is_in-kept-by (λ u. not (m.fit v u)) k (removed v xs)) ∙ e) in
    (not-true (m.fit v k) apart, (and_parts (not (k == v)) (is_in k xs) (sym (is_in-kept-by (λ u. not (u == v)) k xs) ∙ e₁)).1)

class-within : (m : Meaning) (σ : ℕ → ℕ) (n : ℕ) (xs : List ℕ) → Within (class m σ n xs) xs
class-within m σ n [] k e = e
class-within m σ zero (x ∷ xs) k e = absurd (false≢true e)
class-within m σ (suc n) (x ∷ xs) k e =
    let v = least_by σ x xs in
    let rest = joinable m v (x ∷ xs) in
    elim (or_cases (k == v) (is_in k (class m σ n rest)) e) [
      | inl same ↦ subst (λ y. is_in y (x ∷ xs) ≡ true) (sym (eqb-true k v same)) (least_by-in σ x xs)
      | inr more ↦ (in-joinable m v k (x ∷ xs) (class-within m σ n rest k more)).1
    ]

independent-none : (m : Meaning) → Independent m []
independent-none m u v e f = absurd (false≢true e)

independent-cons : (m : Meaning) → Lawful m → (v : ℕ) (K : List ℕ) → ((k : ℕ) → is_in k K ≡ true → m.fit v k ≡ false) → Independent m K → Independent m (v ∷ K)
independent-cons m law v K apart more u w e f = elim (or_cases (u == v) (is_in u K) e) [
  | inl here ↦ rw (eqb-true u v here) (elim (or_cases (w == v) (is_in w K) f) [ inl there ↦ rw (eqb-true w v there) (law.not_itself v) | inr in-K ↦ apart w in-K ])
  | inr in-K ↦ elim (or_cases (w == v) (is_in w K) f) [ inl there ↦ rw (eqb-true w v there) (law.fit-both u v ∙ apart u in-K) | inr also ↦ more u w in-K also ]
]

pub class-independent : (m : Meaning) → Lawful m → (σ : ℕ → ℕ) (n : ℕ) (xs : List ℕ) → Independent m (class m σ n xs)
class-independent m law σ n [] = independent-none m
class-independent m law σ zero (x ∷ xs) = independent-none m
class-independent m law σ (suc n) (x ∷ xs) =
    let v = least_by σ x xs in
    let rest = joinable m v (x ∷ xs) in
    independent-cons m law v (class m σ n rest) (λ k e. (in-joinable m v k (x ∷ xs) (class-within m σ n rest k e)).0) (class-independent m law σ n rest)

pub in_without : (k : ℕ) (xs ys : List ℕ) → is_in k xs ≡ true → is_in k ys ≡ false → is_in k (without xs ys) ≡ true
in_without k xs ys e out = is_in-kept-by (λ x. not (is_in x ys)) k xs ∙ and_from (not (is_in k ys)) (is_in k xs) (not_from_false (is_in k ys) out) e

pub without-parts : (k : ℕ) (xs ys : List ℕ) → is_in k (without xs ys) ≡ true → (is_in k xs ≡ true) × (is_in k ys ≡ false)
without-parts k xs ys e =
    let (out, e₁) = and_parts (not (is_in k ys)) (is_in k xs) (sym (is_in-kept-by (λ x. not (is_in x ys)) k xs) ∙ e) in
    (e₁, not-true (is_in k ys) out)

pub length-kept-by-less : (p : ℕ → Bool) (k : ℕ) (xs : List ℕ) → is_in k xs ≡ true → p k ≡ false → length (filter p xs) < length xs
length-kept-by-less p k [] e fails = absurd (false≢true e)
length-kept-by-less p k (x ∷ xs) e fails =
    cond_both (p x) (x ∷ filter p xs) (filter p xs) (λ l. length l < suc (length xs))
    (λ passes. elim (or_cases (k == x) (is_in k xs) e) [
      | inl same ↦ absurd (both_ways (p k) fails (ap p (eqb-true k x same) ∙ passes))
      | inr more ↦ omega (arith, length-kept-by-less p k xs more fails)
    ])
    (λ _. omega (arith, length-sub (sub-kept-by p xs)))

-- a class takes at least one
pub length-left : (m : Meaning) (σ : ℕ → ℕ) (n x : ℕ) (xs : List ℕ) → length (without (x ∷ xs) (class m σ (suc n) (x ∷ xs))) ≤ length xs
length-left m σ n x xs =
    let v = least_by σ x xs in
    let K = class m σ (suc n) (x ∷ xs) in
    omega (arith, length-kept-by-less (λ y. not (is_in y K)) v (x ∷ xs) (least_by-in σ x xs) (not_from_true (is_in v K) (in-first v (class m σ n (joinable m v (x ∷ xs))))))

partition-none : (m : Meaning) → Partition m [] []
partition-none m = record {
  independent = λ _. independent-none m;
  disjoint = λ i j k e. absurd (false≢true e);
  within = λ i k e. e;
  cover = λ k e. absurd (false≢true e);
}

-- a class, and the classes of what it leaves
module _ (m : Meaning) (S K : List ℕ) (Ks : List (List ℕ)) (apart : Independent m K) (part : Within K S) (rest : Partition m (without S K) Ks) where
  later-parts : (i k : ℕ) → is_in k (slice_index_or Ks i []) ≡ true → (is_in k S ≡ true) × (is_in k K ≡ false)
  later-parts i k e = without-parts k S K (rest.within i k e)

  disjoint-more : (i j k : ℕ) → is_in k (slice_index_or (K ∷ Ks) i []) ≡ true → is_in k (slice_index_or (K ∷ Ks) j []) ≡ true → i ≡ j
  disjoint-more zero zero k e f = refl
  disjoint-more zero (suc j) k e f = absurd (both_ways (is_in k K) (later-parts j k f).1 e)
  disjoint-more (suc i) zero k e f = absurd (both_ways (is_in k K) (later-parts i k e).1 f)
  disjoint-more (suc i) (suc j) k e f = ap suc (rest.disjoint i j k e f)

  cover-more : (k : ℕ) → is_in k S ≡ true → (i : ℕ) × (is_in k (slice_index_or (K ∷ Ks) i []) ≡ true)
  cover-more k e = elim (cases_Bool (is_in k K)) [
    | inl here ↦ (zero, here)
    | inr out ↦ let (i, later) = rest.cover k (in_without k S K e out) in (suc i, later)
  ]

  partition-more : Partition m S (K ∷ Ks)
  partition-more = record {
    independent = elim [ zero ↦ apart | suc i ↦ rest.independent i ];
    disjoint = disjoint-more;
    within = elim [ zero ↦ part | suc i ↦ λ k e. (later-parts i k e).0 ];
    cover = cover-more;
  }

coloured-partition : (m : Meaning) → Lawful m → (n : ℕ) (σ : ℕ → ℕ) (xs : List ℕ) → length xs ≤ n → Partition m xs (map (λ c. c.members) (coloured m n σ xs))
coloured-partition m law n σ [] enough = partition-none m
coloured-partition m law zero σ (x ∷ xs) enough = absurd (omega arith)
coloured-partition m law (suc n) σ (x ∷ xs) enough =
    let K = class_of m σ (x ∷ xs) in
    let left = without (x ∷ xs) K in
    let rest = coloured-partition m law n (raised m K left σ) left (omega (arith, length-left m σ (length xs) x xs)) in
    partition-more m (x ∷ xs) K (map (λ c. c.members) (coloured m n (raised m K left σ) left))
    (class-independent m law σ (length (x ∷ xs)) (x ∷ xs)) (class-within m σ (length (x ∷ xs)) (x ∷ xs)) rest

pub classes-partition : (m : Meaning) → Lawful m → (C S : List ℕ) → Partition m S (classes m C S)
classes-partition m law C S = coloured-partition m law (length S) (started m C S) S (omega arith)
