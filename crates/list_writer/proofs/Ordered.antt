-- Records in order: each of a pair of the sheet, with keys that rise.
use Rattle.std.proofs.Common.{◌≡◌, ℕ, zero, suc, ◌+◌, ◌/◌, ◌%◌, ◌<◌, ◌≤◌, eqb, List, [], ◌∷◌, map, length, get_or, Some, None, sym, refl, ap, ◌∙◌, subst, ap₂, ⊎_elim, arith}
use Rattle.std.specs.List.{AllByRecursion}
use Rattle.std.proofs.lemmas.Bool.{cases_eq, cases_order, cond-true, cond-false, eq-eqb, ne_eqb}
use Rattle.std.proofs.lemmas.Option.{same_Some}
use Rattle.candidates.specs.Sets.{counting}
use Rattle.blocks.specs.Format.{Record, look}

-- the keys rise, and the first is at least a
abbrev pub Rise : ℕ → List Record → Type 0
Rise a [] = Unit {0}
Rise a (r ∷ rs) = (a ≤ r.key) × Rise (suc r.key) rs

pub record Right (n : ℕ) (r : Record) : Type 0 where
  pub below : r.key % 256 < r.key / 256
  pub within : r.key / 256 < n
  pub fair : r.points < 65535

pub record Ordered (n : ℕ) (rs : List Record) : Type 0 where
  pub rise : Rise 0 rs
  pub right : AllByRecursion (Right n) rs

rise-later : (a b : ℕ) (rs : List Record) → b ≤ a → Rise a rs → Rise b rs
rise-later a b [] less up = tt
rise-later a b (r ∷ rs) less up = (omega (arith, up.0), up.1)

pub rise-get_d : (a : ℕ) (rs : List Record) (i : ℕ) (d : Record) → Rise a rs → suc i < length rs → (get_or rs i d).key < (get_or rs (suc i) d).key
rise-get_d a [] i d up inside = absurd (omega arith)
rise-get_d a (r ∷ []) i d up inside = absurd (omega arith)
rise-get_d a (r ∷ (s ∷ rs)) zero d up inside = up.1.0
rise-get_d a (r ∷ (s ∷ rs)) (suc i) d up inside = rise-get_d (suc r.key) (s ∷ rs) i d up.1 (omega arith)

pub rise-map : (f : ℕ → Record) (low a n : ℕ) → (0 < n → low ≤ (f a).key) → ((i : ℕ) → a ≤ i → suc i < a + n → (f i).key < (f (suc i)).key) → Rise low (map f (counting a n))
rise-map f low a zero first step = tt
rise-map f low a (suc n) first step =
    (first (omega arith), rise-map f (suc (f a).key) (suc a) n (λ some. step a (omega arith) (omega arith)) (λ i from inside. step i (omega arith) (omega arith)))

-- no record with a key is among those with higher keys
look-higher : (a key : ℕ) (rs : List Record) → Rise a rs → key < a → look key rs ≡ None
unfolding look
look-higher a key [] up less = refl
look-higher a key (r ∷ rs) up less =
    cond-false (eqb r.key key) (Some r.points) (look key rs) (ne_eqb r.key key (λ same. omega (arith, up.0))) ∙ look-higher (suc r.key) key rs up.1 (omega (arith, up.0))

look-first : (r : Record) (rs : List Record) → look r.key (r ∷ rs) ≡ Some r.points
unfolding look
look-first r rs = cond-true (eqb r.key r.key) (Some r.points) (look r.key rs) (eq-eqb r.key r.key refl)

look-other : (key : ℕ) (r : Record) (rs : List Record) → (r.key ≡ key → ⊥) → look key (r ∷ rs) ≡ look key rs
unfolding look
look-other key r rs apart = cond-false (eqb r.key key) (Some r.points) (look key rs) (ne_eqb r.key key apart)

some-none : {X : Type 0} (x : X) → Some x ≡ None → ⊥
some-none x e = let z : ◌≡◌ {A = ℕ} 0 1 = cc in omega arith

-- records in order are settled by what is found among them
pub same-from-look : (a : ℕ) (xs ys : List Record) → Rise a xs → Rise a ys → ((key : ℕ) → look key xs ≡ look key ys) → xs ≡ ys
unfolding look
same-from-look a [] [] up also same = refl
same-from-look a [] (y ∷ ys) up also same = absurd (some-none y.points (sym (look-first y ys) ∙ sym (same y.key)))
same-from-look a (x ∷ xs) [] up also same = absurd (some-none x.points (sym (look-first x xs) ∙ same x.key))
same-from-look a (x ∷ xs) (y ∷ ys) up also same =
    ⊎_elim
    (λ (equal : x.key ≡ y.key).
    let there : look x.key (y ∷ ys) ≡ Some y.points = ap (λ k. look k (y ∷ ys)) equal ∙ look-first y ys in
    let points : x.points ≡ y.points = same_Some x.points y.points (sym (look-first x xs) ∙ (same x.key ∙ there)) in
    let first : x ≡ y = ap₂ (λ k p. record { key = k; points = p }) equal points in
    ap₂ ◌∷◌ first (same-from-look (suc x.key) xs ys up.1 (rise-later (suc y.key) (suc x.key) ys (omega arith) also.1) (λ key.
    ⊎_elim
    (λ (here : x.key ≡ key). look-higher (suc x.key) key xs up.1 (omega arith) ∙ sym (look-higher (suc y.key) key ys also.1 (omega arith)))
    (λ (apart : x.key ≡ key → ⊥). sym (look-other key x xs apart) ∙ (same key ∙ look-other key y ys (λ is. apart (equal ∙ is))))
    (cases_eq x.key key))))
    (⊎_elim
    (λ (less : x.key < y.key). absurd (some-none x.points (sym (look-first x xs) ∙ (same x.key ∙ look-higher y.key x.key (y ∷ ys) (omega arith, also.1) less))))
    (λ (more : y.key < x.key). absurd (some-none y.points (sym (look-first y ys) ∙ (sym (same y.key) ∙ look-higher x.key y.key (x ∷ xs) (omega arith, up.1) more)))))
    (cases_order x.key y.key)

-- what is found among records in order is right
pub look-right : (n key p : ℕ) (rs : List Record) → AllByRecursion (Right n) rs → look key rs ≡ Some p → Right n (record { key = key; points = p })
unfolding look
look-right n key p [] all found = absurd (some-none p (sym found))
look-right n key p (r ∷ rs) all found =
    ⊎_elim
    (λ (here : r.key ≡ key).
    let points : r.points ≡ p = same_Some r.points p (sym (look-first r rs) ∙ (ap (λ k. look k (r ∷ rs)) here ∙ found)) in
    subst (Right n) (ap₂ (λ k q. record { key = k; points = q }) here points) all.0)
    (λ (apart : r.key ≡ key → ⊥). look-right n key p rs all.1 (sym (look-other key r rs apart) ∙ found))
    (cases_eq r.key key)
