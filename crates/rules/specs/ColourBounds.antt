-- The colour rule bounds: a clique has at most one member of a class, and the raise pays for its points with the others.
use Rattle.std.specs.Prelude.{◌≡◌, ℕ, zero, suc, ◌+◌, ◌*◌, ◌≤◌, true, not, List, [], ◌∷◌, length, refl}
use Rattle.std.proofs.Common.{inl, inr, sym, subst, arith}
use Rattle.std.proofs.lemmas.Bool.{not-false, not_from_false, both_ways, cases_Bool, cond_both, cond-true, false≢true}
use Rattle.candidates.specs.Sets.{is_in, Within, without}
use Rattle.candidates.proofs.Sets.{in-first, kept-by-all, sub-kept-by}
use Rattle.sheets.specs.Meaning.{Meaning, Lawful}
use Rattle.sheets.specs.Weights.{total, rho, weight}
use Rattle.sheets.specs.Cliques.{Clique}
use Rattle.sheets.proofs.Weights.{total-le}
use Rattle.sheets.proofs.Cliques.{clique-head, clique-tail, clique-sub}
use Rattle.rules.specs.Bounds.{Bounds, Candidates}
use Rattle.rules.specs.Greatest.{greatest, le-greatest, greatest-le}
use Rattle.rules.specs.Sums.{length-candidates, rho-candidates, total-raised}
use Rattle.rules.specs.Colour.{started, class_of, rise, raised, coloured, sum_of_highest, colour, Independent}
use Rattle.rules.specs.Classes.{class-independent, in_without, without-parts, length-left}

module _ (m : Meaning) (law : Lawful m) (K : List ℕ) (apart : Independent m K) where
  -- where the first of a clique is in the class, none of the others is
  without-others : (v : ℕ) (F : List ℕ) → Clique m (v ∷ F) → is_in v K ≡ true → without F K ≡ F
  without-others v F clique here = kept-by-all (λ x. not (is_in x K)) F (λ k e. elim (cases_Bool (is_in k K)) [
    | inl there ↦ absurd (both_ways (m.fit v k) (apart v k here there) ((clique-head m v F clique).fits k e))
    | inr out ↦ not_from_false (is_in k K) out
  ])

  -- what the class leaves of a clique: the first and some others, or all others
  without-cases : (P : List ℕ → Type 0) (v : ℕ) (F : List ℕ) → Clique m (v ∷ F) → P (v ∷ without F K) → (is_in v K ≡ true → P F) → P (without (v ∷ F) K)
  without-cases P v F clique left taken =
      cond_both (not (is_in v K)) (v ∷ without F K) (without F K) P (λ _. left)
      (λ e. let here = not-false (is_in v K) e in subst P (sym (without-others v F clique here)) (taken here))

  total-meets : (f : ℕ → ℕ) (F : List ℕ) → Clique m F → total f F ≤ greatest f K + total f (without F K)
  total-meets f [] clique = omega arith
  total-meets f (v ∷ F) clique =
      without-cases (λ l. total f (v ∷ F) ≤ greatest f K + total f l) v F clique
      (omega (arith, total-meets f F (clique-tail m v F clique)))
      (λ here. omega (arith, le-greatest f v K here))

  -- the raise pays for the points with one of the class
  total-pays : (σ : ℕ → ℕ) (v : ℕ) (F : List ℕ) → is_in v K ≡ true → total σ F + rho m F v ≤ total (λ w. σ w + rise m K w) F
  total-pays σ v F here = omega (arith, total-raised m law σ v F, total-le (λ w. σ w + m.points v w) (λ w. σ w + rise m K w) F (λ w _. omega (arith, le-greatest (λ u. m.points u w) v K here)))

  gain-meets : (σ : ℕ → ℕ) (F : List ℕ) → Clique m F → total σ F + weight m F ≤ greatest σ K + (total (λ w. σ w + rise m K w) (without F K) + weight m (without F K))
  gain-meets σ [] clique = omega arith
  gain-meets σ (v ∷ F) clique =
      let tail = clique-tail m v F clique in
      without-cases (λ l. total σ (v ∷ F) + weight m (v ∷ F) ≤ greatest σ K + (total (λ w. σ w + rise m K w) l + weight m l)) v F clique
      (omega (arith, gain-meets σ F tail, total-meets (λ u. m.points u v) F tail))
      (λ here. omega (arith, le-greatest σ v K here, total-pays σ v F here))

within_none : (F : List ℕ) → Within F [] → F ≡ []
within_none [] within = refl
within_none (v ∷ F) within = absurd (false≢true (within v (in-first v F)))

module _ (m : Meaning) (law : Lawful m) where
  coloured-covers : (n : ℕ) (σ : ℕ → ℕ) (xs F : List ℕ) → length xs ≤ n → Within F xs → Clique m F → total σ F + weight m F ≤ sum_of_highest (coloured m n σ xs)
  coloured-covers n σ [] F enough within clique = rw (within_none F within) (omega arith)
  coloured-covers zero σ (x ∷ xs) F enough within clique = absurd (omega arith)
  coloured-covers (suc n) σ (x ∷ xs) F enough within clique =
      let K = class_of m σ (x ∷ xs) in
      let left = without (x ∷ xs) K in
      let σ₁ = raised m K left σ in
      let part : Within (without F K) left = λ k e. let (e₁, out) = without-parts k F K e in in_without k (x ∷ xs) K (within k e₁) out in
      let first = gain-meets m law K (class-independent m law σ (length (x ∷ xs)) (x ∷ xs)) σ F clique in
      let paid = total-le (λ w. σ w + rise m K w) σ₁ (without F K) (λ w e. omega (arith, cond-true (is_in w left) (σ w + rise m K w) (σ w) (part w e))) in
      let fewer : length left ≤ n = omega (arith, length-left m σ (length xs) x xs) in
      omega (arith, coloured-covers n σ₁ left (without F K) fewer part (clique-sub m clique (sub-kept-by (λ x. not (is_in x K)) F)))

  pub started-le : (C S : List ℕ) → Candidates m C → (k : ℕ) → started m C S k ≤ 16776704
  started-le C S c k = cond_both (is_in k S) (rho m C k) 0 (λ y. y ≤ 16776704) (λ _. rho-candidates m law C c k) (λ _. omega arith)

  pub raised-le : (K left : List ℕ) (σ : ℕ → ℕ) (most : ℕ) → ((k : ℕ) → σ k ≤ most) → (k : ℕ) → raised m K left σ k ≤ most + 65534
  raised-le K left σ most le k =
      let rises = greatest-le (λ u. m.points u k) 65534 K (λ u _. law.highest u k) in
      cond_both (is_in k left) (σ k + rise m K k) (σ k) (λ y. y ≤ most + 65534) (λ _. omega (arith, le k)) (λ _. omega (arith, le k))

  -- σ stays within 512 times the most points of two
  pub coloured-limit : (n most : ℕ) (σ : ℕ → ℕ) (xs : List ℕ) → most + 65534 * n ≤ 33553408 → ((k : ℕ) → σ k ≤ most) → sum_of_highest (coloured m n σ xs) ≤ 33553408 * n
  coloured-limit n most σ [] room le = omega arith
  coloured-limit zero most σ (x ∷ xs) room le = omega arith
  coloured-limit (suc n) most σ (x ∷ xs) room le =
      let K = class_of m σ (x ∷ xs) in
      let left = without (x ∷ xs) K in
      let first = greatest-le σ most K (λ k _. le k) in
      omega (arith, coloured-limit n (most + 65534) (raised m K left σ) left (omega arith) (raised-le K left σ most le))

pub colour-bounds : Bounds colour
colour-bounds = record {
  covers = λ m law C S F c s clique within.
      let start = total-le (rho m C) (started m C S) F (λ v e. omega (arith, cond-true (is_in v S) (rho m C v) 0 (within v e))) in
      omega (arith, coloured-covers m law (length S) (started m C S) S F (omega arith) within clique);
  limit = λ m law C S c s.
      let short = length-candidates m law S s in
      omega (arith, coloured-limit m law (length S) 16776704 (started m C S) S (omega arith) (started-le m law C S c));
}
