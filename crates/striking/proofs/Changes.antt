-- What a strike and a restore change, accepted or refused, as a test of membership.
use Rattle.std.proofs.Common.{◌≡◌, ℕ, true, false, cond, not, ◌&&◌, eqb, ltb, List, Ok, Err, Result, ap, ◌∙◌, arith, MatchResult}
use Rattle.std.proofs.lemmas.Bool.Decides.{nat_tests}
use Rattle.candidates.specs.Sets.{is_in, inserted, removed}
use Rattle.candidates.proofs.Sets.{is_in-inserted, is_in-kept-by}
use Rattle.striking.specs.declared.fault.StrikeFault.{StrikeFault}
use Rattle.striking.specs.Judged.{strike_judged, restore_judged}

-- the struck set of a layer a before and b after
module _ {Layer : Type 0} (set : Layer → List ℕ) (a b : Layer) (n u : ℕ) where
  pub strike-changes : (r : Result (Unit {0}) StrikeFault) → r ≡ strike_judged n (set a) u → MatchResult r (λ _. set b ≡ inserted u (set a)) (λ _. b ≡ a) → (v : ℕ) → is_in v (set b) ≡ cond (eqb u v && ltb v n) true (is_in v (set a))
  strike-changes (Ok _) is added v = ap (is_in v) added ∙ is_in-inserted v u (set a) ∙ grind (arith, nat_tests)
  strike-changes (Err _) is same v = ap (λ s. is_in v (set s)) same ∙ grind (arith, nat_tests)

  pub restore-changes : (r : Result (Unit {0}) StrikeFault) → r ≡ restore_judged n (set a) u → MatchResult r (λ _. set b ≡ removed u (set a)) (λ _. b ≡ a) → (v : ℕ) → is_in v (set b) ≡ cond (eqb u v && ltb v n) false (is_in v (set a))
  restore-changes (Ok _) is left v = ap (is_in v) left ∙ is_in-kept-by (λ x. not (eqb x u)) v (set a) ∙ grind (arith, nat_tests)
  restore-changes (Err _) is same v = ap (λ s. is_in v (set s)) same ∙ grind (arith, nat_tests)
