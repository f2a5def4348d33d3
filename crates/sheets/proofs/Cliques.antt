-- Cliques by their first member, by the test, and within the candidates of the sheet.
use Rattle.std.proofs.Common.{◌≡◌, ℕ, suc, ◌<◌, true, ◌&&◌, ltb, List, [], ◌∷◌, Decides, refl, ◌∙◌, arith}
use Rattle.std.proofs.lemmas.Bool.{and_parts, and_from, ltb-true, lt-ltb}
use Rattle.std.proofs.lemmas.Bool.Decides.{nat_tests}
use Rattle.candidates.specs.Sets.{is_in, From, counting, Sub}
use Rattle.candidates.proofs.Sets.{in-first, in_rest, from-weaker, in-from, from-sub, from-counting, is_in-counting, sub-from-within, within-from-sub}
use Rattle.sheets.specs.Meaning.{Meaning, Lawful}
use Rattle.sheets.specs.Cliques.{Clique, fits_all, is_clique}

pub clique-none : (m : Meaning) → Clique m []
clique-none m = record { ascending = tt; below = λ v e. absurd (grind (arith, nat_tests)); fits = λ u v e. absurd (grind (arith, nat_tests)) }

-- v can go in front of K
pub record Before (m : Meaning) (v : ℕ) (K : List ℕ) : Type 0 where
  pub above : From (suc v) K
  pub candidate : v < m.size
  pub fits : (k : ℕ) → is_in k K ≡ true → m.fit v k ≡ true

pub clique-tail : (m : Meaning) (v : ℕ) (K : List ℕ) → Clique m (v ∷ K) → Clique m K
clique-tail m v K c = record {
  ascending = from-weaker (suc v) 0 K c.ascending.1 (omega arith);
  below = λ u e. c.below u (in_rest u v K e);
  fits = λ u w e f. c.fits u w (in_rest u v K e) (in_rest w v K f);
}

pub clique-head : (m : Meaning) (v : ℕ) (K : List ℕ) → Clique m (v ∷ K) → Before m v K
clique-head m v K c =
    record {
      above = c.ascending.1;
      candidate = c.below v (in-first v K);
      fits = λ k e. c.fits v k (in-first v K) (in_rest k v K e) (λ same. let low = in-from (suc v) k K c.ascending.1 e in omega arith);
    }

pub clique-cons : (m : Meaning) → Lawful m → (v : ℕ) (K : List ℕ) → Before m v K → Clique m K → Clique m (v ∷ K)
clique-cons m law v K h c = record {
  ascending = (omega arith, h.above);
  below = λ u e. let first = h.candidate in let inside = c.below u in grind (arith, nat_tests);
  fits = λ u w e f differ. let in-front = h.fits in let inside = c.fits u w in grind (arith, nat_tests, in-front u, in-front w, law.fit-both u w);
}

fits-from-test : (m : Meaning) (v : ℕ) (K : List ℕ) → fits_all m v K ≡ true → (k : ℕ) → is_in k K ≡ true → m.fit v k ≡ true
fits-from-test m v [] t k e = absurd (grind (arith, nat_tests))
fits-from-test m v (u ∷ K) t k e = let more = λ (d : fits_all m v K ≡ true). fits-from-test m v K d k in grind (arith, nat_tests)

test-from-fits : (m : Meaning) (v : ℕ) (K : List ℕ) → ((k : ℕ) → is_in k K ≡ true → m.fit v k ≡ true) → fits_all m v K ≡ true
test-from-fits m v [] h = refl
test-from-fits m v (u ∷ K) h = and_from (m.fit v u) (fits_all m v K) (h u (in-first u K)) (test-from-fits m v K (λ k e. h k (in_rest k u K e)))

clique-from-test : (m : Meaning) → Lawful m → (a : ℕ) (K : List ℕ) → From a K → is_clique m K ≡ true → Clique m K
clique-from-test m law a [] h t = clique-none m
clique-from-test m law a (v ∷ K) h t =
    let first = and_parts (ltb v m.size) (fits_all m v K && is_clique m K) t in
    let rest = and_parts (fits_all m v K) (is_clique m K) first.1 in
    clique-cons m law v K
    (record { above = h.1; candidate = ltb-true v m.size first.0; fits = fits-from-test m v K rest.0 })
    (clique-from-test m law (suc v) K h.1 rest.1)

test-from-clique : (m : Meaning) (K : List ℕ) → Clique m K → is_clique m K ≡ true
test-from-clique m [] c = refl
test-from-clique m (v ∷ K) c =
    let head = clique-head m v K c in
    and_from (ltb v m.size) (fits_all m v K && is_clique m K) (lt-ltb v m.size head.candidate)
    (and_from (fits_all m v K) (is_clique m K) (test-from-fits m v K head.fits) (test-from-clique m K (clique-tail m v K c)))

pub is_clique-decides : (m : Meaning) → Lawful m → (a : ℕ) (K : List ℕ) → From a K → Decides (is_clique m K) (Clique m K)
is_clique-decides m law a K h = (clique-from-test m law a K h, test-from-clique m K)

pub clique-sub : (m : Meaning) {K L : List ℕ} → Clique m L → Sub K L → Clique m K
clique-sub m c s =
    let within = within-from-sub s in
    record { ascending = from-sub 0 c.ascending s; below = λ v e. c.below v (within v e); fits = λ u v e f. c.fits u v (within u e) (within v f) }

pub sub-candidates : (m : Meaning) (K : List ℕ) → Clique m K → Sub K (counting 0 m.size)
sub-candidates m K c =
    sub-from-within 0 0 K (counting 0 m.size) c.ascending (from-counting 0 m.size)
    (λ k e. let lt = c.below k e in is_in-counting k 0 m.size ∙ grind (arith, nat_tests))
