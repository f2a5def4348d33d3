-- What the answers to grants add up to, and that a search is finished when one says so.
use Rattle.std.proofs.Common.{◌≡◌, ◌+◌, ◌≤◌, true, false, List, [], ◌∷◌, refl, arith}
use Rattle.std.proofs.lemmas.Bool.{both_ways, or_parts}
use Rattle.sheets.specs.Meaning.{Meaning}
use Rattle.rules.specs.Bounds.{Number}
use Rattle.runs.specs.State.{State, finished}
use Rattle.runs.specs.Calls.{Call, reply, answers_from}
use Rattle.runs.specs.Promise.{is_finished, says_finished, nodes_of, all_nodes, grant_of, all_grants}
use Rattle.runs.proofs.Cases.{at_call, after}
use Rattle.runs.proofs.Nodes.{cost, progress-cost, progress-all}

module _ (m : Meaning) (number : Number) where
  reply-cost : (s : State) (call : Call) → nodes_of (reply m number s call).answer + cost (reply m number s call).next.stack ≤ cost s.stack
  reply-cost s =
      at_call m number s (λ call r. nodes_of r.answer + cost r.next.stack ≤ cost s.stack)
      (record { refusal = λ _ _. omega arith; grant = λ k. progress-cost m number k s; offer = λ _ _. omega arith; held = λ _ _ _ _. omega arith; ceil = omega arith })

  pub answers-cost : (s : State) (asked : List Call) → all_nodes (answers_from m number s asked) + cost (after m number s asked).stack ≤ cost s.stack
  answers-cost s [] = omega arith
  answers-cost s (call ∷ asked) = omega (arith, reply-cost s call, answers-cost (reply m number s call).next asked)

  reply-all : (s : State) (call : Call) → is_finished (reply m number s call).answer ≡ false → nodes_of (reply m number s call).answer ≡ grant_of call (reply m number s call).answer
  reply-all s =
      at_call m number s (λ call r. is_finished r.answer ≡ false → nodes_of r.answer ≡ grant_of call r.answer)
      (record { refusal = λ _ _ _. refl; grant = λ k going. progress-all m number k s going; offer = λ _ _ _. refl; held = λ _ _ _ _ _. refl; ceil = λ _. refl })

  pub answers-all : (s : State) (asked : List Call) → says_finished (answers_from m number s asked) ≡ false → all_nodes (answers_from m number s asked) ≡ all_grants asked (answers_from m number s asked)
  answers-all s [] going = refl
  answers-all s (call ∷ asked) going =
      let next = (reply m number s call).next in
      let parts = or_parts (is_finished (reply m number s call).answer) (says_finished (answers_from m number next asked)) going in
      omega (arith, reply-all s call parts.0, answers-all next asked parts.1)

  pub reply-says : (s : State) (call : Call) → is_finished (reply m number s call).answer ≡ true → finished (reply m number s call).next ≡ true
  reply-says s =
      at_call m number s (λ call r. is_finished r.answer ≡ true → finished r.next ≡ true)
      (record {
        refusal = λ _ _ e. absurd (both_ways false refl e);
        grant = λ k e. e;
        offer = λ _ _ e. absurd (both_ways false refl e);
        held = λ _ _ _ _ e. absurd (both_ways false refl e);
        ceil = λ e. absurd (both_ways false refl e);
      })
