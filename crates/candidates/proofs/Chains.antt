-- Chains of iterators over a set: what they come to, as a function of the list of members. Assumes nothing.
-- `t` is that function: each lemma takes what it is at the empty list and at a first member, mostly `refl` and `λ _ _. refl`.
use Rattle.std.proofs.Common.{◌≡◌, ℕ, ◌+◌, ◌<◌, max, cond, ltb, Bool, true, false, ◌&&◌, zero, suc, List, [], ◌∷◌, length, get_or, map, Option, Some, None, subst, refl, sym, ap, ◌∙◌, arith}
use denote.Param.Members.{Mut}
use Rattle.std.specs.Bool.{⊤}
use Rattle.std.specs.Fn.{Called, CalledAt, TakesAt}
use denote.Ref.{Bor}
use Rattle.std.specs.declared.cmp.Ordering.{Ordering}
use Rattle.std.specs.Iterator.{CallableAtEachTurn, KeyTurn, PicksMinByKey, CallableInMinByKey, YieldsFirst, YieldsThen, Drains, DrainsIf, PicksByCmp}
use Rattle.std.specs.Iterator.Adapters.{map_source, map_callee}
use Rattle.std.specs.Iterator.Runs.{EachRunFrom}
use Rattle.std.specs.List.{FoldsTo, fold, sum_by, list_all, reduce}
use Rattle.std.specs.Option.{MatchOption, unwrap_or}
use Rattle.std.specs.Ordering.{nat_cmp, max_by_ordering, min_by_ordering}
use Rattle.std.specs.declared.iter.Map.{Map}
use Rattle.std.proofs.lemmas.Iterator.{YieldsList, YieldsList-from_map, maps, items_from_drains}
use Rattle.std.proofs.lemmas.Iterator.Adapters.{serves_from_places, option_map_id}
use Rattle.std.proofs.lemmas.Iterator.Consumers.{YieldsList-from_first, YieldsList-at, YieldsList-turn, sum_by_from_yields_List, fits_by_from_yields_list, max_from_yields_List}
use Rattle.std.proofs.lemmas.Iterator.Search.{all_from_yields_List}
use Rattle.std.proofs.lemmas.List.Sums.{sum_by-cons}
use Rattle.std.proofs.lemmas.Cmp.{ranked}
use Rattle.std.specs.declared.cmp.Ordering.TheVariants.{Less, Equal, Greater}
use Rattle.std.proofs.lemmas.Bool.{cond-true, cond-false, lt-ltb, le-ltb}
use Rattle.std.proofs.lemmas.List.{map-id}
use Rattle.candidates.specs.declared.cursor.Members.{Members}
use Rattle.candidates.specs.Sets.{is_in}
use Rattle.candidates.specs.Walk.{remaining}
use Rattle.candidates.proofs.Sets.{in-first, in_rest}
use Rattle.candidates.proofs.Walk.{remaining-below}

-- a walk gives what it has left
pub YieldsList-from_members : {s : Members} (xs : List ℕ) → remaining s ≡ xs → YieldsList (YieldsFirst remaining) (λ v. v) s xs
YieldsList-from_members xs e = YieldsList-from_first (λ v. v) remaining xs e

module _ (h : ℕ → ℕ) (t : List ℕ → ℕ) where
  sum_by-is : t [] ≡ 0 → ((x : ℕ) (xs : List ℕ) → t (x ∷ xs) ≡ h x + t xs) → (xs : List ℕ) → sum_by h xs ≡ t xs
  sum_by-is none more [] = sym none
  sum_by-is none more (x ∷ xs) = sum_by-cons h x xs ∙ ap (λ n. h x + n) (sum_by-is none more xs) ∙ sym (more x xs)

  max_from : t [] ≡ 0 → ((x : ℕ) (xs : List ℕ) → t (x ∷ xs) ≡ max (h x) (t xs)) → (a : ℕ) (xs : List ℕ) → fold max a (map h xs) ≡ max a (t xs)
  max_from none more a [] = omega (arith, none)
  max_from none more a (x ∷ xs) = omega (arith, max_from none more (max a (h x)) xs, more x xs)

  max-is : t [] ≡ 0 → ((x : ℕ) (xs : List ℕ) → t (x ∷ xs) ≡ max (h x) (t xs)) → (xs : List ℕ) → unwrap_or (reduce max (map h xs)) 0 ≡ t xs
  max-is none more [] = sym none
  max-is none more (x ∷ xs) = max_from none more (h x) xs ∙ sym (more x xs)

list_all-is : (test : ℕ → Bool) (t : List ℕ → Bool) → t [] ≡ true → ((x : ℕ) (xs : List ℕ) → t (x ∷ xs) ≡ (test x && t xs)) → (xs : List ℕ) → list_all test xs ≡ t xs
list_all-is test t none more [] = sym none
list_all-is test t none more (x ∷ xs) = ap (λ b. test x && b) (list_all-is test t none more xs) ∙ sym (more x xs)

-- the walk after `map` with a closure that computes h
pub YieldsList-from_mapped : {F : Type 0} {g : Mut F (ℕ × Unit {0}) ℕ} (h : ℕ → ℕ) {f : F} {s : Members} {c : Map Members F} (xs : List ℕ) → remaining s ≡ xs → map_source c ≡ s → map_callee c ≡ f → ((x r : ℕ) (q : F) → Called g f (x, tt) r q → (q ≡ f) × (r ≡ h x)) → YieldsList (maps (YieldsFirst remaining) g) (λ r. r) c (map h xs)
YieldsList-from_mapped h xs e source callee computes = YieldsList-from_map _ h (YieldsList-at source (YieldsList-from_members xs e)) callee computes

-- ---- `.all(p)`
pub all-from_members : {F : Type 0} {g : Mut F (ℕ × Unit {0}) Bool} (test : ℕ → Bool) (t : List ℕ → Bool) (u : Members) (f : F) (r : Bool) {s : Members} → (xs : List ℕ) × (o : Option ℕ) × (j : F) × YieldsThen (YieldsFirst remaining) s xs o u × FoldsTo (λ p x q. Called g p (x, tt) true q) f xs j × MatchOption o (r ≡ true) (λ x. (r ≡ false) × ((h : F) × Called g j (x, tt) false h)) → (xs : List ℕ) → remaining s ≡ xs → ((x : ℕ) (b : Bool) (q : F) → Called g f (x, tt) b q → (q ≡ f) × (b ≡ test x)) → t [] ≡ true → ((x : ℕ) (xs : List ℕ) → t (x ∷ xs) ≡ (test x && t xs)) → r ≡ t xs
all-from_members test t u f r ran xs e computes none more = all_from_yields_List test u f r ran (YieldsList-from_members xs e) computes ∙ list_all-is test t none more xs

module _ {F : Type 0} {g : Mut F (ℕ × Unit {0}) ℕ} (h : ℕ → ℕ) (t : List ℕ → ℕ) where
  -- ---- `.map(h).sum()`
  pub sum-from_members : (c : Map Members F) (r : ℕ) {f : F} {s : Members} → ((xs : List ℕ) × (⊤ → Drains (maps (YieldsFirst remaining) g) c xs) × (r ≡ fold (λ a x. a + x) 0 xs)) → (xs : List ℕ) → remaining s ≡ xs → map_source c ≡ s → map_callee c ≡ f → ((x r : ℕ) (q : F) → Called g f (x, tt) r q → (q ≡ f) × (r ≡ h x)) → t [] ≡ 0 → ((x : ℕ) (xs : List ℕ) → t (x ∷ xs) ≡ h x + t xs) → r ≡ t xs
  sum-from_members c r ran xs e source callee computes none more = sum_by_from_yields_List h xs c r ran (YieldsList-from_mapped h xs e source callee computes) ∙ sum_by-is h t none more xs

  -- what `sum` requires
  pub fits-from_members : (c : Map Members F) (top : ℕ) {f : F} {s : Members} → (xs : List ℕ) → remaining s ≡ xs → map_source c ≡ s → map_callee c ≡ f → ((x r : ℕ) (q : F) → Called g f (x, tt) r q → (q ≡ f) × (r ≡ h x)) → t [] ≡ 0 → ((x : ℕ) (xs : List ℕ) → t (x ∷ xs) ≡ h x + t xs) → t xs < top → EachRunFrom (maps (YieldsFirst remaining) g) c (λ p. fold (λ a x. a + x) 0 p.items < top)
  fits-from_members c top xs e source callee computes none more small = fits_by_from_yields_list h xs c top (YieldsList-from_mapped h xs e source callee computes) (omega (arith, sum_by-is h t none more xs, small))

  -- ---- `.map(h).max().unwrap_or(0)`
  pub max-from_members : (c : Map Members F) (r : Option ℕ) {f : F} {s : Members} → PicksByCmp (maps (YieldsFirst remaining) g) max_by_ordering nat_cmp c r → (xs : List ℕ) → remaining s ≡ xs → map_source c ≡ s → map_callee c ≡ f → ((x r : ℕ) (q : F) → Called g f (x, tt) r q → (q ≡ f) × (r ≡ h x)) → t [] ≡ 0 → ((x : ℕ) (xs : List ℕ) → t (x ∷ xs) ≡ max (h x) (t xs)) → unwrap_or r 0 ≡ t xs
  max-from_members c r ran xs e source callee computes none more =
      ap (λ o. unwrap_or o 0) (sym (option_map_id r) ∙ max_from_yields_List {v = λ x. x} c r ran (YieldsList-from_mapped h xs e source callee computes)) ∙ max-is h t none more xs

-- ---- what a closure may be asked: it is called at members only, which are below 256
at-place : (xs : List ℕ) (k : ℕ) → k < length xs → (x : ℕ) → x ≡ get_or xs k x → is_in x xs ≡ true
at-place [] k h x e = absurd (omega arith)
at-place (y ∷ ys) zero h x e = ap (λ z. is_in z (y ∷ ys)) e ∙ in-first y ys
at-place (y ∷ ys) (suc k) h x e = in_rest x y ys (at-place ys k (omega arith) x e)

pub serves-from_members : {F : Type 0} {R : F → ℕ → F → Type 0} {Q : F → ℕ → Type 0} {f : F} {s : Members} (xs : List ℕ) → remaining s ≡ xs → ((x : ℕ) (q : F) → R f x q → q ≡ f) → ((x : ℕ) → is_in x xs ≡ true → x < 256 → Q f x) → CallableAtEachTurn (YieldsFirst remaining) R Q s f
serves-from_members {s = s} xs e stays asked =
    serves_from_places (YieldsList-from_members xs e) stays
    (λ x k h is. let inside = at-place xs k h x is in asked x inside (remaining-below s x (ap (is_in x) e ∙ inside)))

drained : (s : Members) (xs : List ℕ) → Drains (YieldsFirst remaining) s xs → DrainsIf (YieldsFirst remaining) (Unit {0}) s xs
drained s xs d = (d.1.0, d.1.1, λ _. (d.0, d.1.2))

-- ---- `.min_by_key(key)`: `best b xs` is the one of least key among b and those of xs, the first on a tie
module _ {F : Type 0} {g : Mut F (Bor ℕ × Unit {0}) ℕ} {f : F} (key : ℕ → ℕ) (best : ℕ → List ℕ → ℕ)
    (computes : (x k : ℕ) (q : F) → CalledAt g f x k q → (q ≡ f) × (k ≡ key x)) where
  lesser : (x b j k : ℕ) (o : Ordering) → nat_cmp k (key x) ≡ o → k ≡ key b → j ≡ min_by_ordering o b x → j ≡ cond (ltb (key x) (key b)) x b
  lesser x b j k Less is same picked = let r = ranked k (key x) Less (sym is) in picked ∙ sym (cond-false _ x b (le-ltb (key x) (key b) (omega (arith, r, same))))
  lesser x b j k Equal is same picked = let r = ranked k (key x) Equal (sym is) in picked ∙ sym (cond-false _ x b (le-ltb (key x) (key b) (omega (arith, r, same))))
  lesser x b j k Greater is same picked = let r = ranked k (key x) Greater (sym is) in picked ∙ sym (cond-true _ x b (lt-ltb (key x) (key b) (omega (arith, r, same))))

  -- the key is the one of the number beside it
  kept : (x b j k l m : ℕ) (o : Ordering) → k ≡ key b → l ≡ key x → j ≡ min_by_ordering o b x → m ≡ min_by_ordering o k l → m ≡ key j
  kept x b j k l m Less is new picked taken = taken ∙ is ∙ ap key (sym picked)
  kept x b j k l m Equal is new picked taken = taken ∙ is ∙ ap key (sym picked)
  kept x b j k l m Greater is new picked taken = taken ∙ new ∙ ap key (sym picked)

  best-folds : ((b : ℕ) → best b [] ≡ b) → ((b x : ℕ) (xs : List ℕ) → best b (x ∷ xs) ≡ best (cond (ltb (key x) (key b)) x b) xs)
      → (p q : (F × ℕ) × ℕ) (xs : List ℕ) → p.0.0 ≡ f → p.0.1 ≡ key p.1 → FoldsTo {P = (F × ℕ) × ℕ} (KeyTurn min_by_ordering min_by_ordering g nat_cmp) p xs q → q.1 ≡ best p.1 xs
  best-folds none more p q [] at is c = ap (λ e. e.1) (sym c) ∙ sym (none p.1)
  best-folds none more p q (x ∷ xs) at is (j, (k, o, called, cmp, taken, picked), rest) =
      let says = computes x k j.0.0 (subst (λ e. CalledAt g e x k j.0.0) at called) in
      let low = lesser x p.1 j.1 p.0.1 o (ap (nat_cmp p.0.1) (sym says.1) ∙ cmp) is picked in
      best-folds none more j q xs says.0 (kept x p.1 j.1 p.0.1 k j.0.1 o is says.1 picked taken) rest ∙ ap (λ b. best b xs) low ∙ sym (more p.1 x xs)

  pub min_by_key-from_members : (t : List ℕ → Option ℕ) (s : Members) (r : Option ℕ) → PicksMinByKey (YieldsFirst remaining) g nat_cmp s f r → (xs : List ℕ) → remaining s ≡ xs → t [] ≡ None → ((x : ℕ) (xs : List ℕ) → t (x ∷ xs) ≡ Some (best x xs)) → ((b : ℕ) → best b [] ≡ b) → ((b x : ℕ) (xs : List ℕ) → best b (x ∷ xs) ≡ best (cond (ltb (key x) (key b)) x b) xs) → r ≡ t xs
  min_by_key-from_members t s None ran xs e nothing first none more = sym nothing ∙ ap t (items_from_drains [] (drained s [] ran) (YieldsList-from_members xs e))
  min_by_key-from_members t s (Some y) (x, zs, k, h, q, drains, called, folds) xs e nothing first none more =
      let says = computes x k h called in
      ap Some (best-folds none more ((h, k), x) (q, y) zs says.0 says.1 folds) ∙ sym (first x zs) ∙ ap t (sym (map-id (x ∷ zs)) ∙ items_from_drains (x ∷ zs) (drained s (x ∷ zs) drains) (YieldsList-from_members xs e))

-- what `min_by_key` requires
module _ {F : Type 0} {g : Mut F (Bor ℕ × Unit {0}) ℕ} {f : F} (stays : (x k : ℕ) (q : F) → CalledAt g f x k q → q ≡ f) where
  unchanged : (p q : (F × ℕ) × ℕ) (xs : List ℕ) → p.0.0 ≡ f → FoldsTo {P = (F × ℕ) × ℕ} (KeyTurn min_by_ordering min_by_ordering g nat_cmp) p xs q → q.0.0 ≡ f
  unchanged p q [] at c = ap (λ e. e.0.0) (sym c) ∙ at
  unchanged p q (x ∷ xs) at (j, (k, o, called, cmp, taken, picked), rest) = unchanged j q xs (stays x k j.0.0 (subst (λ e. CalledAt g e x k j.0.0) at called)) rest

  pub serves_by_key-from_members : (s : Members) (xs : List ℕ) → remaining s ≡ xs → ((x : ℕ) → is_in x xs ≡ true → x < 256 → TakesAt g f x) → CallableInMinByKey (YieldsFirst remaining) g nat_cmp s f
  serves_by_key-from_members s xs e asked x t first =
      let ask = λ (y : ℕ) (inside : is_in y (remaining s) ≡ true). asked y (ap (is_in y) (sym e) ∙ inside) (remaining-below s y inside) in (
        ask x (ap (is_in x) first ∙ in-first x (remaining t)),
        λ k h called. record {
          at = λ ys u q y v yields folds steps.
              let turn = YieldsList-turn (YieldsList-from_members (remaining t) refl) ys u yields (Some y) v y refl steps in
              subst (λ p. TakesAt g p y) (sym (unchanged ((h, k), x) q ys (stays x k h called) folds))
              (ask y (ap (is_in y) first ∙ in_rest y x (remaining t) (at-place (remaining t) _ turn.0 y turn.1)));
        },
      )
