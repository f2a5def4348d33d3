-- Questions of which the first no decides, put one after another.
use Rattle.std.proofs.Common.{◌≡◌, ℕ, zero, suc, ◌+◌, ◌-◌, ◌<◌, ◌≤◌, true, false, cond, [], ◌∷◌, ◌++◌, Ok, Err, Result, sym, refl, ap, ◌∙◌, ⊎_elim, arith}
use Rattle.std.specs.List.{flat_map}
use Rattle.std.proofs.lemmas.Bool.{cases_eq}
use Rattle.std.proofs.lemmas.Bool.Decides.{nat_tests}
use Rattle.candidates.specs.Sets.{counting}
use Rattle.sheets.specs.Refusals.{first_no}
use Rattle.blocks.specs.Questions.{Asked, above}
use Rattle.blocks.proofs.Sums.{counting_more}

-- a refusal as the layer above holds it
abbrev pub raised : {A B : Type 0} → (A → B) → Result (Unit {0}) A → Result (Unit {0}) B
raised hold (Ok _) = Ok tt
raised hold (Err e) = Err (hold e)

pub first_no-above : {A B : Type 0} (hold : A → B) (qs : Asked A) → first_no (above hold qs) ≡ raised hold (first_no qs)
first_no-above hold [] = refl
first_no-above hold (q ∷ qs) =
    elim q.0 as (λ b. cond b (first_no (above hold qs)) (Err (hold q.1)) ≡ raised hold (cond b (first_no qs) (Err q.1)))
    [ true ↦ first_no-above hold qs | false ↦ refl ]

module _ {F : Type 0} where
  pub first_no-append-ok : (qs rest : Asked F) → first_no qs ≡ Ok tt → first_no (qs ++ rest) ≡ first_no rest
  first_no-append-ok [] rest ok = refl
  first_no-append-ok (q ∷ qs) rest ok = let more = first_no-append-ok qs rest in grind (arith, nat_tests)

  pub first_no-append-err : (qs rest : Asked F) (e : F) → first_no qs ≡ Err e → first_no (qs ++ rest) ≡ Err e
  first_no-append-err [] rest e bad = grind (arith, nat_tests)
  first_no-append-err (q ∷ qs) rest e bad = let more = first_no-append-err qs rest e in grind (arith, nat_tests)

  -- if nothing of two is refused, nothing of either is
  pub first_no-first : (qs rest : Asked F) → first_no (qs ++ rest) ≡ Ok tt → first_no qs ≡ Ok tt
  first_no-first [] rest ok = refl
  first_no-first (q ∷ qs) rest ok = let more = first_no-first qs rest in grind (arith, nat_tests)

  pub first_no-rest : (qs rest : Asked F) → first_no (qs ++ rest) ≡ Ok tt → first_no rest ≡ Ok tt
  first_no-rest qs rest ok = sym (first_no-append-ok qs rest (first_no-first qs rest ok)) ∙ ok

  pub joined-counting-more : (q : ℕ → Asked F) (i n : ℕ) → i < n → flat_map q (counting i (n - i)) ≡ q i ++ flat_map q (counting (i + 1) (n - (i + 1)))
  joined-counting-more q i n less = ap (flat_map q) (counting_more i n less)

  -- what is asked of each of some numbers is refused of none of them, and the converse
  pub first_no-each : (q : ℕ → Asked F) (a n : ℕ) → first_no (flat_map q (counting a n)) ≡ Ok tt → (i : ℕ) → a ≤ i → i < a + n → first_no (q i) ≡ Ok tt
  first_no-each q a zero ok i low high = absurd (omega arith)
  first_no-each q a (suc n) ok i low high =
      ⊎_elim
      (λ (same : a ≡ i). rw (← same) (first_no-first (q a) (flat_map q (counting (suc a) n)) ok))
      (λ (apart : a ≡ i → ⊥). first_no-each q (suc a) n (first_no-rest (q a) (flat_map q (counting (suc a) n)) ok) i (omega arith) (omega arith))
      (cases_eq a i)

  pub first_no-joined : (q : ℕ → Asked F) (a n : ℕ) → ((i : ℕ) → a ≤ i → i < a + n → first_no (q i) ≡ Ok tt) → first_no (flat_map q (counting a n)) ≡ Ok tt
  first_no-joined q a zero each = refl
  first_no-joined q a (suc n) each =
      first_no-append-ok (q a) (flat_map q (counting (suc a) n)) (each a (omega arith) (omega arith)) ∙ first_no-joined q (suc a) n (λ i low high. each i (omega arith) (omega arith))
