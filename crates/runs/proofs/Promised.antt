-- The promise holds of every search over a lawful sheet and under a rule that bounds.
use Rattle.std.proofs.Common.{◌≡◌, ℕ, ◌≤◌, true, List, [], ◌∷◌, ◌++◌, Some, Option, sym, refl, ap, subst, ⊎_elim, arith}
use Rattle.std.proofs.lemmas.Bool.Decides.{nat_tests}
use Rattle.sheets.specs.Meaning.{Meaning, Lawful}
use Rattle.sheets.specs.Weights.{weight}
use Rattle.sheets.specs.Cliques.{Clique}
use Rattle.sheets.specs.Heaviest.{FirstHeaviest}
use Rattle.sheets.proofs.Cliques.{clique-none}
use Rattle.sheets.proofs.Heaviest.{only_one}
use Rattle.rules.specs.Bounds.{Number, Bounds}
use Rattle.runs.specs.State.{Frame, Held, state, start, is_empty, ceiling}
use Rattle.runs.specs.Calls.{Call, AskCeiling, Ceiling, answers}
use Rattle.runs.specs.Promise.{says_finished, HeldAfter, Ends, Alike, HeldPromise, CeilingPromise, NodesPromise, Promise}
use Rattle.sheets.proofs.Weights.{points}
use Rattle.runs.proofs.Cases.{after}
use Rattle.runs.proofs.Holding.{Sound, Holds}
use Rattle.runs.proofs.Invariant.{Invariant, invariant-start}
use Rattle.runs.proofs.First.{FirstAt}
use Rattle.runs.proofs.Ceilings.{ceiling-covers}
use Rattle.runs.proofs.Nodes.{cost-start}
use Rattle.runs.proofs.Grants.{answers-cost, answers-all}
use Rattle.runs.proofs.Told.{then, answer-told, held-from-told, ceiling-from-told, either-told, holds-told, holds-from-told}
use Rattle.runs.proofs.Runs.{after-append, invariant-after, holds_after, ceiling-after, first-after, offers-after, says-finished}

-- where nothing is pending, what is held is as heavy as every clique
settled : (m : Meaning) (held : Option Held) (stack : List Frame) → Invariant m (state held stack) → is_empty stack ≡ true → (K : List ℕ) → Clique m K → Holds held (weight m K)
settled m held [] i e K c = ⊎_elim (λ p. absurd p) (λ h. h) (i.complete K c)
settled m held (f ∷ below) i e K c = absurd (grind (arith, nat_tests))

same-meaning : {m n : Meaning} → Alike m n → m ≡ n
same-meaning a = λ i. record { size = a.size i; fit = λ u v. a.fit u v i; points = λ u v. a.points u v i }

module _ (m : Meaning) (law : Lawful m) (number : Number) (rule : Bounds number) where
  invariant : (asked : List Call) → Invariant m (then m number asked)
  invariant asked = invariant-after m law number rule (start m) asked (invariant-start m)

  sound : (asked : List Call) (h : Held) → HeldAfter m number asked h → Sound m (Some h)
  sound asked h is = subst (Sound m) (held-from-told m number asked h is) (invariant asked).sound

  held : HeldPromise m number
  held = record {
    known = λ asked. either-told m number asked (then m number asked).held refl;
    clique = λ asked h is. (sound asked h is).0;
    weighs = λ asked h is. (sound asked h is).1;
    offers = λ asked list taken w. holds-told m number asked (weight m list) (then m number asked).held refl (offers-after m law number rule list taken (start m) asked (invariant-start m) w);
    rises = λ asked more w h.
        holds-told m number (asked ++ more) w (after m number (then m number asked) more).held (ap (λ s. s.held) (after-append m number (start m) asked more))
        (holds_after m law number rule w (then m number asked) more (invariant asked) (holds-from-told m number asked w h));
  }

  ceilings : CeilingPromise m number
  ceilings = record {
    known = λ asked. (ceiling (then m number asked), answer-told m number asked AskCeiling (Ceiling (ceiling (then m number asked))) refl);
    covers = λ asked c is K k. omega (points, ceiling-from-told m number asked c is, ceiling-covers m (then m number asked) (invariant asked) K k);
    falls = λ asked more c d is later.
        let same = ap ceiling (after-append m number (start m) asked more) in
        let start = ceiling-from-told m number asked c is in
        omega (points, start, same, ceiling-from-told m number (asked ++ more) d later, ceiling-after m law number rule c (then m number asked) more (invariant asked) (omega (points, start)));
  }

  covers-all : (asked : List Call) → says_finished (answers m number asked) ≡ true → (K : List ℕ) → Clique m K → Holds (then m number asked).held (weight m K)
  covers-all asked e = settled m (then m number asked).held (then m number asked).stack (invariant asked) (says-finished m law number rule (start m) asked (invariant-start m) e)

  -- the empty set is a clique, so one is held
  heaviest : (asked : List Call) → says_finished (answers m number asked) ≡ true → (h : Held) × HeldAfter m number asked h × ((K : List ℕ) → Clique m K → weight m K ≤ h.weight)
  heaviest asked e =
      let one = holds-told m number asked (weight m []) (then m number asked).held refl (covers-all asked e [] (clique-none m)) in
      (one.held, one.is, λ K c. subst (λ o. Holds o (weight m K)) (held-from-told m number asked one.held one.is) (covers-all asked e K c))

  pub first : (asked : List Call) (h : Held) → Ends m number asked h → FirstHeaviest m h.set h.weight
  first asked h e =
      let is = held-from-told m number asked h e.holds in
      record {
        clique = (sound asked h e.holds).0;
        weighs = (sound asked h e.holds).1;
        heaviest = λ J j. subst (λ o. Holds o (weight m J)) is (covers-all asked e.finished J j);
        first = subst (FirstAt m h.weight) is (first-after m law number rule h.weight (start m) asked e.lighter (invariant-start m) tt) refl;
      }

  nodes : NodesPromise m number
  nodes = record {
    limit = λ asked. omega (arith, answers-cost m number (start m) asked, cost-start m);
    granted = answers-all m number (start m);
  }

pub promised : (m : Meaning) → Lawful m → (number : Number) → Bounds number → Promise m number
promised m law number rule = record {
  held = held m law number rule;
  ceiling = ceilings m law number rule;
  finished = record { heaviest = heaviest m law number rule; first = first m law number rule };
  alike = λ n same other bounds asked others h g e f.
      let f' = subst (λ n. Ends n other others g) (sym (same-meaning same)) f in
      let both = only_one m g.set h.set g.weight h.weight (first m law other bounds others g f') (first m law number rule asked h e) in
      λ i. record { set = both.0 i; weight = sym both.1 i };
  nodes = nodes m law number rule;
}
