-- From one node and one offer to every list of calls.
use Rattle.std.proofs.Common.{◌≡◌, ℕ, zero, suc, ◌<◌, ◌≤◌, Bool, true, false, List, [], ◌∷◌, ◌++◌, refl, ap, subst, inl, inr, ⊎_elim, arith}
use Rattle.std.proofs.lemmas.Bool.{both_ways, cond_both, or_cases}
use Rattle.std.proofs.lemmas.Bool.Decides.{nat_tests}
use Rattle.sheets.specs.Meaning.{Meaning, Lawful}
use Rattle.sheets.specs.Weights.{weight}
use Rattle.sheets.specs.Cliques.{Clique}
use Rattle.rules.specs.Bounds.{Number, Bounds}
use Rattle.runs.specs.State.{State, state, finished, takes, offered, node, ceiling}
use Rattle.runs.specs.Calls.{Call, Offer, Taken, stopped, further, progress, reply, answers_from}
use Rattle.runs.specs.Promise.{Was, is_finished, says_finished}
use Rattle.sheets.proofs.Weights.{points}
use Rattle.runs.proofs.Cases.{never, at_call, after}
use Rattle.runs.proofs.Holding.{Holds, at-offered, offered-holds, offered-keeps, node-holds}
use Rattle.runs.proofs.Invariant.{Invariant, node-keeps, offer-keeps}
use Rattle.runs.proofs.First.{FirstAt, node-first}
use Rattle.runs.proofs.Ceilings.{ceiling-offered, ceiling-node}
use Rattle.runs.proofs.Offers.{clique-offered}
use Rattle.runs.proofs.Grants.{reply-says}

module _ (m : Meaning) (number : Number) where
  pub after-append : (s : State) (asked more : List Call) → after m number s (asked ++ more) ≡ after m number (after m number s asked) more
  after-append s [] more = refl
  after-append s (call ∷ asked) more = after-append (reply m number s call).next asked more

  pub answers_push : (s : State) (asked : List Call) (call : Call) → answers_from m number s (asked ++ call ∷ []) ≡ answers_from m number s asked ++ (reply m number (after m number s asked) call).answer ∷ []
  answers_push s [] call = refl
  answers_push s (first ∷ asked) call = ap (λ l. (reply m number s first).answer ∷ l) (answers_push (reply m number s first).next asked call)

  -- an accepted offer is no heavier than what is held then
  reply-holds : (s : State) (call : Call) (list : List ℕ) (taken : Bool) → call ≡ Offer list → (reply m number s call).answer ≡ Taken taken → Holds (reply m number s call).next.held (weight m list)
  reply-holds s =
      at_call m number s (λ call r. (list : List ℕ) (taken : Bool) → call ≡ Offer list → r.answer ≡ Taken taken → Holds r.next.held (weight m list))
      (record {
        refusal = λ call r list taken is e. never (cc);
        grant = λ k list taken is e. never (cc);
        offer = λ this _ list taken is e. let same : this ≡ list = cc in subst (λ l. Holds (offered m s.held this) (weight m l)) same (offered-holds m s.held this);
        held = λ buffer count w then list taken is e. never (cc);
        ceil = λ list taken is e. never (cc);
      })

-- Nodes keep P, and so do offers, if those that are taken are allowed.
pub record Kept (m : Meaning) (number : Number) (Allowed : List ℕ → Type 0) (P : State → Type 0) : Type 0 where
  pub by-node : (s : State) → finished s ≡ false → Invariant m s → P s → P (node m number s)
  pub by-offer : (s : State) (K : List ℕ) → Clique m K → (takes s.held (weight m K) ≡ true → Allowed K) → Invariant m s → P s → P (state (offered m s.held K) s.stack)

module _ (m : Meaning) (law : Lawful m) (number : Number) (rule : Bounds number) where
  module _ (Allowed : List ℕ → Type 0) (P : State → Type 0) (kept : Kept m number Allowed P) where
    progress-kept : (k : ℕ) (s : State) → Invariant m s × P s → Invariant m (progress m number k s).reached × P (progress m number k s).reached
    progress-kept zero s g = g
    progress-kept (suc k) s g =
        cond_both (finished s) (stopped s) (further (progress m number k (node m number s))) (λ p. Invariant m p.reached × P p.reached)
        (λ _. g)
        (λ e. progress-kept k (node m number s) (node-keeps m law number rule s g.0, kept.by-node s e g.0 g.1))

    reply-kept : (s : State) → Invariant m s × P s → (call : Call) → ((K : List ℕ) → call ≡ Offer K → (reply m number s call).answer ≡ Taken true → Allowed K) → Invariant m (reply m number s call).next × P (reply m number s call).next
    reply-kept s g =
        at_call m number s (λ call r. ((K : List ℕ) → call ≡ Offer K → r.answer ≡ Taken true → Allowed K) → Invariant m r.next × P r.next)
        (record {
          refusal = λ call r _. g;
          grant = λ k _. progress-kept k s g;
          offer = λ list e allowed. let c = clique-offered m law list e in (offer-keeps m s list c g.0, kept.by-offer s list c (λ t. allowed list refl (ap Taken t)) g.0 g.1);
          held = λ buffer count w then _. g;
          ceil = λ _. g;
        })

    after_kept : (s : State) (asked : List Call) → ((K : List ℕ) → Was (Offer K) (Taken true) asked (answers_from m number s asked) → Allowed K) → Invariant m s × P s → Invariant m (after m number s asked) × P (after m number s asked)
    after_kept s [] allowed g = g
    after_kept s (call ∷ asked) allowed g =
        after_kept (reply m number s call).next asked (λ K w. allowed K (inr w)) (reply-kept s g call (λ K is e. allowed K (inl (is, e))))

  -- what is kept whatever is offered
  always : (P : State → Type 0) → Kept m number (λ _. Unit {0}) P → (s : State) (asked : List Call) → Invariant m s → P s → P (after m number s asked)
  always P kept s asked i p = (after_kept (λ _. Unit {0}) P kept s asked (λ _ _. tt) (i, p)).1

  pub invariant-after : (s : State) (asked : List Call) → Invariant m s → Invariant m (after m number s asked)
  invariant-after s asked i = (after_kept (λ _. Unit {0}) (λ _. Unit {0}) (record { by-node = λ _ _ _ _. tt; by-offer = λ _ _ _ _ _ _. tt }) s asked (λ _ _. tt) (i, tt)).0

  pub holds_after : (w : ℕ) (s : State) (asked : List Call) → Invariant m s → Holds s.held w → Holds (after m number s asked).held w
  holds_after w = always (λ s. Holds s.held w) (record { by-node = λ s _ _ h. node-holds m number w s h; by-offer = λ s K _ _ _ h. offered-keeps m s.held K w h })

  pub ceiling-after : (c : ℕ) (s : State) (asked : List Call) → Invariant m s → ceiling s ≤ c → ceiling (after m number s asked) ≤ c
  ceiling-after c = always (λ s. ceiling s ≤ c) (record { by-node = λ s _ i le. omega (points, ceiling-node m number s i); by-offer = λ s K k _ i le. omega (points, ceiling-offered m s K k i) })

  finished-after : (s : State) (asked : List Call) → Invariant m s → finished s ≡ true → finished (after m number s asked) ≡ true
  finished-after = always (λ s. finished s ≡ true) (record { by-node = λ s going _ e. absurd (both_ways (finished s) going e); by-offer = λ _ _ _ _ _ e. e })

  pub first-after : (w : ℕ) (s : State) (asked : List Call) → ((K : List ℕ) → Was (Offer K) (Taken true) asked (answers_from m number s asked) → weight m K < w) → Invariant m s → FirstAt m w s.held → FirstAt m w (after m number s asked).held
  first-after w s asked lighter i first =
      (after_kept (λ K. weight m K < w) (λ s. FirstAt m w s.held)
      (record {
        by-node = λ s _ i first. node-first m number w s i first;
        by-offer = λ s K _ lighter _ first. at-offered m s.held K (FirstAt m w) (λ t this. absurd (omega (points, lighter t))) (λ _. first);
      })
      s asked lighter (i, first)).1

  pub offers-after : (list : List ℕ) (taken : Bool) (s : State) (asked : List Call) → Invariant m s → Was (Offer list) (Taken taken) asked (answers_from m number s asked) → Holds (after m number s asked).held (weight m list)
  offers-after list taken s [] i w = absurd w
  offers-after list taken s (call ∷ asked) i (inl w) = holds_after (weight m list) (reply m number s call).next asked (invariant-after s (call ∷ []) i) (reply-holds m number s call list taken w.0 w.1)
  offers-after list taken s (call ∷ asked) i (inr w) = offers-after list taken (reply m number s call).next asked (invariant-after s (call ∷ []) i) w

  -- a search that says finished is finished from then on
  pub says-finished : (s : State) (asked : List Call) → Invariant m s → says_finished (answers_from m number s asked) ≡ true → finished (after m number s asked) ≡ true
  says-finished s [] i e = absurd (grind (arith, nat_tests))
  says-finished s (call ∷ asked) i e =
      let next = (reply m number s call).next in
      let kept = invariant-after s (call ∷ []) i in
      ⊎_elim
      (λ here. finished-after next asked kept (reply-says m number s call here))
      (says-finished next asked kept)
      (or_cases (is_finished (reply m number s call).answer) (says_finished (answers_from m number next asked)) e)
