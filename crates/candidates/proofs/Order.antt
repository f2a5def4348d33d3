-- List order is a strict total order on sets.
use Rattle.std.proofs.Common.{◌≡◌, ℕ, suc, ◌<◌, ◌≤◌, Bool, true, false, not, ◌&&◌, ◌||◌, eqb, ltb, ◌⊎◌, List, [], ◌∷◌, ◌++◌, Some, None, Decides, Option, sym, refl, ap, ◌∙◌, inl, inr, ⊎_elim, arith, MatchOption}
use Rattle.std.proofs.lemmas.Bool.{false≢true, both_ways, cases_lt, cases_order, ltb-true, lt-ltb}
use Rattle.std.proofs.lemmas.Bool.Decides.{nat_tests}
use Rattle.candidates.specs.Order.{Earlier, StrictTotal}
use Rattle.candidates.specs.Sets.{is_in, From, Ascending, without, least}
use Rattle.candidates.proofs.Sets.{in-first, in_rest, not-in-below, in-from, from-kept-by, is_in-kept-by}

pub earlier-irreflexive : (a : List ℕ) → Earlier a a → ⊥
earlier-irreflexive a e = both_ways (is_in e.at a) e.absent e.present

pub earlier-transitive : (a b c : List ℕ) → Earlier a b → Earlier b c → Earlier a c
earlier-transitive a b c e f = elim (cases_order e.at f.at) [
  | inl same ↦ absurd (both_ways (is_in e.at b) e.absent (ap (λ k. is_in k b) same ∙ f.present))
  | inr (inl lt) ↦ record { at = e.at; present = e.present; absent = sym (f.alike e.at lt) ∙ e.absent; alike = λ k below. e.alike k below ∙ f.alike k (omega arith) }
  | inr (inr lt) ↦ record { at = f.at; present = e.alike f.at lt ∙ f.present; absent = f.absent; alike = λ k below. e.alike k (omega arith) ∙ f.alike k below }
]

pub earlier-asymmetric : (a b : List ℕ) → Earlier a b → Earlier b a → ⊥
earlier-asymmetric a b e f = earlier-irreflexive a (earlier-transitive a b a e f)

-- a set is earlier than one whose members are all above its first
pub earlier-first : (x : ℕ) (xs ys : List ℕ) → From (suc x) xs → From (suc x) ys → Earlier (x ∷ xs) ys
earlier-first x xs ys h g = record {
  at = x;
  present = in-first x xs;
  absent = not-in-below (suc x) x ys g (omega arith);
  alike = λ k lt. let out = not-in-below (suc x) k xs h (omega arith) in let out' = not-in-below (suc x) k ys g (omega arith) in grind (arith, nat_tests);
}

-- below a common first member the rests decide
pub earlier-behind : (x : ℕ) (xs ys : List ℕ) → From (suc x) xs → Earlier xs ys → Earlier (x ∷ xs) (x ∷ ys)
earlier-behind x xs ys h e = record {
  at = e.at;
  present = in_rest e.at x xs e.present;
  absent = let above = in-from (suc x) e.at xs h e.present in let out = e.absent in grind (arith, nat_tests);
  alike = λ k lt. ap (λ t. eqb k x || t) (e.alike k lt);
}

-- behind a common beginning, what has v is earlier than what has only members above v
pub earlier-append : (a v : ℕ) (C F G : List ℕ) → From a (C ++ v ∷ F) → From (suc v) G → Earlier (C ++ v ∷ F) (C ++ G)
earlier-append a v [] F G h g = earlier-first v F G h.1 g
earlier-append a v (c ∷ C) F G h g = earlier-behind c (C ++ v ∷ F) (C ++ G) h.1 (earlier-append (suc c) v C F G h.1 g)

earlier-either : (x : ℕ) (xs ys : List ℕ) → From (suc x) xs → From (suc x) ys → (xs ≡ ys) ⊎ (Earlier xs ys ⊎ Earlier ys xs) → (x ∷ xs ≡ x ∷ ys) ⊎ (Earlier (x ∷ xs) (x ∷ ys) ⊎ Earlier (x ∷ ys) (x ∷ xs))
earlier-either x xs ys h g (inl e) = inl (ap (λ l. x ∷ l) e)
earlier-either x xs ys h g (inr (inl e)) = inr (inl (earlier-behind x xs ys h e))
earlier-either x xs ys h g (inr (inr e)) = inr (inr (earlier-behind x ys xs g e))

total : (m n : ℕ) (a b : List ℕ) → From m a → From n b → (a ≡ b) ⊎ (Earlier a b ⊎ Earlier b a)
total m n [] [] h g = inl refl
total m n [] (y ∷ ys) h g = inr (inr (earlier-first y ys [] g.1 tt))
total m n (x ∷ xs) [] h g = inr (inl (earlier-first x xs [] h.1 tt))
total m n (x ∷ xs) (y ∷ ys) h g =
    let more = total (suc x) (suc y) xs ys h.1 g.1 in
    elim (cases_order x y) [
      | inl same ↦ rw (← same) (earlier-either x xs ys h.1 (rw same g.1) more)
      | inr (inl lt) ↦ inr (inl (earlier-first x xs (y ∷ ys) h.1 (lt, g.1)))
      | inr (inr lt) ↦ inr (inr (earlier-first y ys (x ∷ xs) g.1 (lt, h.1)))
    ]

pub strict-total : StrictTotal
strict-total = record {
  irreflexive = earlier-irreflexive;
  transitive = earlier-transitive;
  total = total 0 0;
}

-- ---- by the lowest members that only one of the two has

-- which of two lowest members comes first, where there is one
abbrev pub precedes : Option ℕ → Option ℕ → Bool
precedes None y = false
precedes (Some x) None = true
precedes (Some x) (Some y) = ltb x y

-- the lowest member of a that b lacks
abbrev Lacked : List ℕ → List ℕ → Option ℕ → Type 0
Lacked a b r = MatchOption r ((k : ℕ) → is_in k a ≡ true → is_in k b ≡ true) (λ x. (is_in x a ≡ true) × (is_in x b ≡ false) × ((k : ℕ) → k < x → is_in k a ≡ true → is_in k b ≡ true))

lacked : (a b : List ℕ) → Ascending a → Lacked a b (least (without a b))
lacked a b up = by (without a b) (from-kept-by (λ x. not (is_in x b)) 0 a up) (λ k. is_in-kept-by (λ x. not (is_in x b)) k a)
  where
    by : (xs : List ℕ) → Ascending xs → ((k : ℕ) → is_in k xs ≡ (not (is_in k b) && is_in k a)) → Lacked a b (least xs)
    by [] h is = λ k e. let i = is k in grind (arith, nat_tests)
    by (x ∷ xs) h is =
        let here = is x in
        let first = in-first x xs in (
          grind (arith, nat_tests),
          grind (arith, nat_tests),
          λ k l e. let i = is k in let out = not-in-below (suc x) k xs h.1 (omega arith) in grind (arith, nat_tests),
        )

precedes-decides : (a b : List ℕ) (x y : Option ℕ) → Lacked a b x → Lacked b a y → Decides (precedes x y) (Earlier a b)
precedes-decides a b None y m t = (λ e. absurd (false≢true e), λ e. absurd (both_ways (is_in e.at b) e.absent (m e.at e.present)))
precedes-decides a b (Some x) None m t = (λ _. record { at = x; present = m.0; absent = m.1; alike = λ k l. let to = m.2 k l in let from = t k in grind (arith, nat_tests) }, λ _. refl)
precedes-decides a b (Some x) (Some y) m t = (
  λ e. record { at = x; present = m.0; absent = m.1; alike = λ k l. let to = m.2 k l in let from = t.2 k (omega (arith, ltb-true x y e)) in grind (arith, nat_tests) },
  λ e.
      let below : e.at ≤ y = ⊎_elim (λ h. absurd (both_ways (is_in y a) t.1 (e.alike y h ∙ t.0))) (λ h. h) (cases_lt y e.at) in
      let above : x ≤ e.at = ⊎_elim (λ h. absurd (both_ways (is_in e.at b) e.absent (m.2 e.at h e.present))) (λ h. h) (cases_lt e.at x) in
      let apart : x ≡ y → ⊥ = λ same. both_ways (is_in y a) t.1 (ap (λ k. is_in k a) (sym same) ∙ m.0) in
      lt-ltb x y (omega arith),
)

pub earlier-decides : (a b : List ℕ) → Ascending a → Ascending b → Decides (precedes (least (without a b)) (least (without b a))) (Earlier a b)
earlier-decides a b up also = precedes-decides a b (least (without a b)) (least (without b a)) (lacked a b up) (lacked b a also)
