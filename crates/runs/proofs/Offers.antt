-- An offer to which every question is answered yes is a clique.
use Rattle.std.proofs.Common.{◌≡◌, ℕ, suc, Bool, true, false, cond, eqb, List, [], ◌∷◌, ◌++◌, Some, None, sym, refl, ◌∙◌, subst, ⊎_elim, arith}
use Rattle.std.specs.List.{AllByRecursion}
use Rattle.std.proofs.lemmas.Bool.{and_parts, or_cases, eqb-true, leb-true, ltb-true}
use Rattle.std.proofs.lemmas.Bool.Decides.{nat_tests}
use Rattle.candidates.specs.Sets.{is_in, From}
use Rattle.sheets.specs.Meaning.{Meaning, Lawful}
use Rattle.sheets.specs.Cliques.{Clique, fits_all}
use Rattle.sheets.proofs.Cliques.{clique-none, clique-cons}
use Rattle.runs.specs.Calls.{Question, first_no, entry_questions, offer_questions}
use Rattle.runs.proofs.Cases.{never}

all_yes : (qs more : List Question) → first_no (qs ++ more) ≡ None → AllByRecursion (λ q. q.yes ≡ true) qs × (first_no more ≡ None)
all_yes [] more e = (tt, e)
all_yes (q ∷ qs) more e = let rest = all_yes qs more in by q.yes rest e
  where
    by : (b : Bool) → (first_no (qs ++ more) ≡ None → AllByRecursion (λ q. q.yes ≡ true) qs × (first_no more ≡ None)) → cond b (first_no (qs ++ more)) (Some q.no) ≡ None → ((b ≡ true) × AllByRecursion (λ q. q.yes ≡ true) qs) × (first_no more ≡ None)
    by true rest e = ((refl, (rest e).0), (rest e).1)
    by false rest e = never (cc)

fits_all-push : (m : Meaning) (v u : ℕ) (K : List ℕ) → fits_all m v (K ++ u ∷ []) ≡ true → (fits_all m v K ≡ true) × (m.fit v u ≡ true)
fits_all-push m v u [] e = grind (arith, nat_tests)
fits_all-push m v u (w ∷ K) e = let parts = and_parts (m.fit v w) (fits_all m v (K ++ u ∷ [])) e in let more = fits_all-push m v u K parts.1 in grind (arith, nat_tests)

-- what is left of an offer, where the questions are answered yes
record Accepted (m : Meaning) (before : List ℕ) (least : ℕ) (list : List ℕ) : Type 0 where
  rises : From least list
  clique : Clique m list
  fits : (k : ℕ) → is_in k list ≡ true → fits_all m k before ≡ true

accepted : (m : Meaning) → Lawful m → (before : List ℕ) (least : ℕ) (list : List ℕ) → first_no (offer_questions m before least list) ≡ None → Accepted m before least list
accepted m law before least [] e = record { rises = tt; clique = clique-none m; fits = λ k d. absurd (grind (arith, nat_tests)) }
accepted m law before least (v ∷ vs) e =
    let asked = all_yes (entry_questions m before least v) (offer_questions m (before ++ v ∷ []) (suc v) vs) e in
    let (below, (above, (fitting, end))) = asked.0 in
    let more = accepted m law (before ++ v ∷ []) (suc v) vs asked.1 in
    let each = λ (k : ℕ) (d : is_in k vs ≡ true). fits_all-push m k v before (more.fits k d) in
    record {
      rises = (leb-true least v above, more.rises);
      clique = clique-cons m law v vs (record { above = more.rises; candidate = ltb-true v m.size below; fits = λ k d. law.fit-both v k ∙ (each k d).1 }) more.clique;
      fits = λ k d. ⊎_elim (λ same. subst (λ u. fits_all m u before ≡ true) (sym (eqb-true k v same)) fitting) (λ later. (each k later).0) (or_cases (eqb k v) (is_in k vs) d);
    }

pub clique-offered : (m : Meaning) → Lawful m → (list : List ℕ) → first_no (offer_questions m [] 0 list) ≡ None → Clique m list
clique-offered m law list e = (accepted m law [] 0 list e).clique
