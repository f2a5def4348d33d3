-- The path rule bounds: a clique is a path upwards, and each step pays for the points with all before it.
use Rattle.std.specs.Prelude.{◌≡◌, ℕ, suc, ◌+◌, ◌*◌, ◌<◌, ◌≤◌, max, Bool, true, List, [], ◌∷◌, ◌++◌, length, filter, ◌==◌, refl}
use Rattle.std.proofs.Common.{inl, inr, sym, ◌∙◌, arith}
use Rattle.std.proofs.lemmas.List.{length_push}
use Rattle.std.proofs.lemmas.Bool.{or_left, or_right, or_cases, and_from, and_parts, eq-eqb, ne_eqb, eqb-true, cond_both, cond-true, cond-false, false≢true}
use Rattle.candidates.specs.Sets.{is_in, From, Sub}
use Rattle.candidates.specs.Sets.Sub.{none, skip, keep}
use Rattle.candidates.proofs.Sets.{in-first, in_rest, sub-from-within, is_in-kept-by, is_in-append}
use Rattle.sheets.specs.Meaning.{Meaning, Lawful}
use Rattle.sheets.specs.Weights.{total, rho, weight}
use Rattle.sheets.specs.Cliques.{Clique}
use Rattle.sheets.proofs.Weights.{rho-append, rho-limit}
use Rattle.sheets.proofs.Cliques.{clique-head, clique-tail}
use Rattle.rules.specs.Bounds.{Bounds, Candidates}
use Rattle.rules.specs.Greatest.{greatest, le-greatest, greatest-le}
use Rattle.rules.specs.Sums.{length-candidates, rho-candidates, total-raised}
use Rattle.rules.specs.Noted.{noted}
use Rattle.rules.specs.Path.{length_of, longest, path}

abbrev Below : ℕ → List ℕ → Type 0
Below a xs = (k : ℕ) → is_in k xs ≡ true → k < a

below-push : (v : ℕ) (xs : List ℕ) → Below v xs → Below (suc v) (xs ++ v ∷ [])
below-push v xs below k e = elim (or_cases (is_in k xs) (is_in k (v ∷ [])) (sym (is_in-append k xs (v ∷ [])) ∙ e)) [
  | inl old ↦ omega (arith, below k old)
  | inr new ↦ elim (or_cases (k == v) (is_in k []) new) [ inl same ↦ omega (arith, eqb-true k v same) | inr never ↦ absurd (false≢true never) ]
]

le-greatest-kept : (f : ℕ → ℕ) (p : ℕ → Bool) (k : ℕ) (xs : List ℕ) → p k ≡ true → is_in k xs ≡ true → f k ≤ greatest f (filter p xs)
le-greatest-kept f p k xs passes e = le-greatest f k (filter p xs) (is_in-kept-by p k xs ∙ and_from (p k) (is_in k xs) passes e)

-- v is noted behind the lower ones, with the length x
module _ (v x : ℕ) (ℓ : ℕ → ℕ) (lower : List ℕ) where
  le-greatest-push : (p : ℕ → Bool) → p v ≡ true → x ≤ greatest (noted v x ℓ) (filter p (lower ++ v ∷ []))
  le-greatest-push p passes =
      let last = is_in-append v lower (v ∷ []) ∙ or_right (is_in v lower) (is_in v (v ∷ [])) (in-first v []) in
      omega (arith, le-greatest-kept (noted v x ℓ) p v (lower ++ v ∷ []) passes last, cond-true (v == v) x (ℓ v) (eq-eqb v v refl))

  le-greatest-old : Below v lower → (p : ℕ → Bool) (k : ℕ) → is_in k (filter p lower) ≡ true → ℓ k ≤ greatest (noted v x ℓ) (filter p (lower ++ v ∷ []))
  le-greatest-old below p k e =
      let (passes, old) = and_parts (p k) (is_in k lower) (sym (is_in-kept-by p k lower) ∙ e) in
      let still = is_in-append k lower (v ∷ []) ∙ or_left (is_in k lower) (is_in k (v ∷ [])) old in
      let differ = ne_eqb k v (λ same. omega (arith, below k old)) in
      omega (arith, le-greatest-kept (noted v x ℓ) p k (lower ++ v ∷ []) passes still, cond-false (k == v) x (ℓ k) differ)

  greatest-push : Below v lower → (p : ℕ → Bool) → greatest ℓ (filter p lower) ≤ greatest (noted v x ℓ) (filter p (lower ++ v ∷ []))
  greatest-push below p = greatest-le ℓ (greatest (noted v x ℓ) (filter p (lower ++ v ∷ []))) (filter p lower) (le-greatest-old below p)

-- The lower members of a clique have gained g, and each v of F, those to come, adds f v beside the points within F.
-- The length of v has room for that.
abbrev Room : Meaning → List ℕ → List ℕ → (ℕ → ℕ) → ℕ → (ℕ → ℕ) → List ℕ → Type 0
Room m C lower ℓ g f F = (v : ℕ) → is_in v F ≡ true → (f v ≤ rho m C v + rho m lower v) × (g ≤ greatest ℓ (filter (m.fit v) lower))

module _ (m : Meaning) (law : Lawful m) (C : List ℕ) where
  -- v is not of the clique
  room-skip : (lower : List ℕ) (ℓ f : ℕ → ℕ) (g v x : ℕ) (F : List ℕ) → Below v lower → Room m C lower ℓ g f F → Room m C (lower ++ v ∷ []) (noted v x ℓ) g f F
  room-skip lower ℓ f g v x F below room w e =
      let old = room w e in
      (omega (arith, rho-append m lower (v ∷ []) w), omega (arith, greatest-push v x ℓ lower below (m.fit w)))

  -- v is of the clique: its length is gained, and it fits those to come
  room-keep : (lower : List ℕ) (ℓ f : ℕ → ℕ) (g v x : ℕ) (F : List ℕ) → Clique m (v ∷ F) → Room m C lower ℓ g f (v ∷ F) → Room m C (lower ++ v ∷ []) (noted v x ℓ) x (λ w. f w + m.points v w) F
  room-keep lower ℓ f g v x F clique room w e =
      let old = room w (in_rest w v F e) in
      let fits = law.fit-both w v ∙ (clique-head m v F clique).fits w e in
      (omega (arith, rho-append m lower (v ∷ []) w), le-greatest-push v x ℓ lower (m.fit w) fits)

  longest-covers : (a : ℕ) (lower : List ℕ) (ℓ f : ℕ → ℕ) (g : ℕ) {F S : List ℕ} → Sub F S → From a S → Below a lower → Clique m F → Room m C lower ℓ g f F → g + (total f F + weight m F) ≤ max g (longest m C lower ℓ S)
  longest-covers a lower ℓ f g none up below clique room = omega arith
  longest-covers a lower ℓ f g (skip {y = v} {xs = F} s) up below clique room =
      let x = length_of m C lower ℓ v in
      let low : Below v lower = λ k e. omega (arith, below k e, up.0) in
      omega (arith, longest-covers (suc v) (lower ++ v ∷ []) (noted v x ℓ) f g s up.1 (below-push v lower low) clique (room-skip lower ℓ f g v x F low room))
  longest-covers a lower ℓ f g (keep {x = v} {xs = F} s) up below clique room =
      let x = length_of m C lower ℓ v in
      let low : Below v lower = λ k e. omega (arith, below k e, up.0) in
      let here = room v (in-first v F) in
      let more = longest-covers (suc v) (lower ++ v ∷ []) (noted v x ℓ) (λ w. f w + m.points v w) x s up.1 (below-push v lower low) (clique-tail m v F clique) (room-keep lower ℓ f g v x F clique room) in
      omega (arith, total-raised m law f v F)

  -- a step adds at most 512 times the most points of two
  longest-limit : Candidates m C → (most : ℕ) (lower : List ℕ) (ℓ : ℕ → ℕ) (S : List ℕ) → length lower + length S ≤ 256 → ((k : ℕ) → ℓ k ≤ most) → longest m C lower ℓ S ≤ most + 33553408 * length S
  longest-limit c most lower ℓ [] short le = omega arith
  longest-limit c most lower ℓ (v ∷ S) short le =
      let x = length_of m C lower ℓ v in
      let first : x ≤ most + 33553408 = omega (arith, rho-candidates m law C c v, rho-limit m law lower v, greatest-le ℓ most (filter (m.fit v) lower) (λ k _. le k)) in
      let le₁ : (k : ℕ) → noted v x ℓ k ≤ most + 33553408 = λ k. cond_both (k == v) x (ℓ k) (λ y. y ≤ most + 33553408) (λ _. first) (λ _. omega (arith, le k)) in
      omega (arith, longest-limit c (most + 33553408) (lower ++ v ∷ []) (noted v x ℓ) S (omega (arith, length_push lower v)) le₁)

pub path-bounds : Bounds path
path-bounds = record {
  covers = λ m law C S F c s clique within.
      let part = sub-from-within 0 0 F S clique.ascending s.ascending within in
      omega (arith, longest-covers m law C 0 [] (λ _. 0) (rho m C) 0 part s.ascending (λ k e. absurd (false≢true e)) clique (λ v _. omega arith));
  limit = λ m law C S c s.
      let short = length-candidates m law S s in
      omega (arith, longest-limit m law C c 0 [] (λ _. 0) S (omega arith) (λ k. omega arith));
}
