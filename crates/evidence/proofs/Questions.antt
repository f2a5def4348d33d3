-- Questions put place by place and list after list, and how they decide on evidence.
use Rattle.std.proofs.Common.{◌≡◌, ℕ, zero, suc, ◌+◌, ◌-◌, ◌<◌, ◌≤◌, Bool, true, false, ◌&&◌, leb, List, [], ◌∷◌, ◌++◌, length, Ok, Err, sym, refl, ap, ◌∙◌, add-one, map, not, get_or, Some, None, arith, inl, inr, subst, ltb, ⊎_elim}
use Rattle.std.specs.List.{position, position_or_len}
use Rattle.std.proofs.lemmas.List.Sums.{fails_before_first, passes_at_first, prefix_len-le-length}
use Rattle.candidates.specs.Sets.{counting}
use Rattle.std.proofs.lemmas.Bool.{cases_eq, cases_lt, lt-ltb, le-ltb, cond-true, cond-false, and_from, le-leb}
use Rattle.sheets.specs.Refusals.{first_no}
use Rattle.evidence.specs.declared.records.Meter.{Meter}
use Rattle.evidence.specs.declared.records.Flat.{Flat}
use Rattle.evidence.specs.declared.records.Candidate.{Candidate}
use Rattle.evidence.specs.declared.fault.EvidenceFault.{EvidenceFault}
use Rattle.evidence.specs.declared.fault.EvidenceFault.TheVariants.{Candidates}
use Rattle.evidence.specs.Judged.{asked, serials, places, evidence_judged}

module _ {Fault : Type 0} (question : ℕ → Bool × Fault) (a b : ℕ) where
  asked-more : a < b → asked question a b ≡ question a ∷ asked question (a + 1) b
  asked-more lt = let left : b - a ≡ suc (b - (a + 1)) = omega arith in rw (left, add-one)

  pub first_no-yes : a < b → (question a).0 ≡ true → first_no (asked question a b) ≡ first_no (asked question (a + 1) b)
  first_no-yes lt e = ap first_no (asked-more lt) ∙ cond-true (question a).0 (first_no (asked question (a + 1) b)) (Err (question a).1) e

-- the first of n questions from a on that is answered no, or none
module _ {Fault : Type 0} (question : ℕ → Bool × Fault) where
  first_no-at : (n a i : ℕ) → a ≤ i → i < a + n → ((k : ℕ) → a ≤ k → k < i → (question k).0 ≡ true) → (question i).0 ≡ false → first_no (map question (counting a n)) ≡ Err (question i).1
  first_no-at zero a i low high agreed fails = absurd (omega arith)
  first_no-at (suc n) a i low high agreed fails =
      elim (cases_eq a i) [
        | inl same ↦ subst (λ k. first_no (map question (counting a (suc n))) ≡ Err (question k).1) same (cond-false (question a).0 _ _ (ap (λ k. (question k).0) same ∙ fails))
        | inr other ↦ cond-true (question a).0 _ _ (agreed a (omega arith) (omega arith)) ∙ first_no-at n (suc a) i (omega arith) (omega arith) (λ k l h. agreed k (omega arith) h) fails
      ]

  first_no-none : (n a : ℕ) → ((k : ℕ) → a ≤ k → k < a + n → (question k).0 ≡ true) → first_no (map question (counting a n)) ≡ Ok tt
  first_no-none zero a agreed = refl
  first_no-none (suc n) a agreed = cond-true (question a).0 _ _ (agreed a (omega arith) (omega arith)) ∙ first_no-none n (suc a) (λ k l h. agreed k (omega arith) (omega arith))

-- A question from a on for each of xs, answered no where p passes: what `position` finds decides.
module _ {Fault X : Type 0} (question : ℕ → Bool × Fault) (p : X → Bool) (xs : List X) (a b : ℕ) (d : X) (asks : (k : ℕ) → k < length xs → (question (a + k)).0 ≡ not (p (get_or xs k d))) (all : b - a ≡ length xs) where
  agreed-before : (k : ℕ) → a ≤ k → k < a + position_or_len p xs → (question k).0 ≡ true
  agreed-before k low high =
      let place : a + (k - a) ≡ k = omega arith in
      let within : k - a < length xs = omega (arith, prefix_len-le-length (λ x. not (p x)) xs) in
      ap (λ n. (question n).0) (sym place) ∙ asks (k - a) within ∙ ap not (fails_before_first p xs (k - a) d (omega arith))

  pub first_no-found : (i at : ℕ) → a + i ≡ at → Some i ≡ position p xs → first_no (asked question a b) ≡ Err (question at).1
  first_no-found i at place found =
      ⊎_elim
      (λ lt.
      let same : i ≡ position_or_len p xs = cc (found, cond-true (ltb (position_or_len p xs) (length xs)) (Some (position_or_len p xs)) None (lt-ltb _ _ lt)) in
      ap (λ n. first_no (map question (counting a n))) all
      ∙ first_no-at question (length xs) a at (omega arith) (omega arith) (λ k low high. agreed-before k low (omega arith))
      (ap (λ n. (question n).0) (sym place) ∙ asks i (omega arith) ∙ ap not (ap (λ n. p (get_or xs n d)) same ∙ passes_at_first p xs d lt)))
      (λ le. cc (found, cond-false (ltb (position_or_len p xs) (length xs)) (Some (position_or_len p xs)) None (le-ltb _ _ le)))
      (cases_lt (position_or_len p xs) (length xs))

  pub first_no-nothing : None ≡ position p xs → first_no (asked question a b) ≡ Ok tt
  first_no-nothing found =
      ⊎_elim
      (λ lt. cc (found, cond-true (ltb (position_or_len p xs) (length xs)) (Some (position_or_len p xs)) None (lt-ltb _ _ lt)))
      (λ le. ap (λ n. first_no (map question (counting a n))) all ∙ first_no-none question (length xs) a (λ k low high. agreed-before k low (omega arith)))
      (cases_lt (position_or_len p xs) (length xs))

-- what the first list leaves undecided, the second decides
first_no-append-ok : {Fault : Type 0} (qs rs : List (Bool × Fault)) → first_no qs ≡ Ok tt → first_no (qs ++ rs) ≡ first_no rs
first_no-append-ok [] rs ok = refl
first_no-append-ok ((true, _) ∷ qs) rs ok = first_no-append-ok qs rs ok
first_no-append-ok ((false, _) ∷ qs) rs ok = cc

first_no-append-err : {Fault : Type 0} (qs rs : List (Bool × Fault)) (fault : Fault) → first_no qs ≡ Err fault → first_no (qs ++ rs) ≡ Err fault
first_no-append-err [] rs fault err = cc
first_no-append-err ((true, _) ∷ qs) rs fault err = first_no-append-err qs rs fault err
first_no-append-err ((false, _) ∷ qs) rs fault err = err

-- With 1 to 256 candidates the serials decide, and after them the places.
module _ (ms : List Meter) (fs : List Flat) (cs : List Candidate) (some : 1 ≤ length cs) (most : length cs ≤ 256) where
  judged-counted : evidence_judged ms fs cs ≡ first_no (serials ms ++ places (length ms) (length fs) cs)
  judged-counted =
      let n = length cs in
      cond-true (leb 1 n && leb n 256) (first_no (serials ms ++ places (length ms) (length fs) cs)) (Err Candidates) (and_from (leb 1 n) (leb n 256) (le-leb 1 n some) (le-leb n 256 most))

  pub judged-serials : (fault : EvidenceFault) → Err fault ≡ first_no (serials ms) → evidence_judged ms fs cs ≡ Err fault
  judged-serials fault err = judged-counted ∙ first_no-append-err (serials ms) (places (length ms) (length fs) cs) fault (sym err)

  pub judged-places : Ok tt ≡ first_no (serials ms) → evidence_judged ms fs cs ≡ first_no (places (length ms) (length fs) cs)
  judged-places ok = judged-counted ∙ first_no-append-ok (serials ms) (places (length ms) (length fs) cs) (sym ok)
