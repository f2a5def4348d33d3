-- How far a grant goes: no further than what is granted, and nowhere where the search is finished.
use Rattle.std.proofs.Common.{◌≡◌, ℕ, zero, suc, ◌≤◌, true, refl, arith}
use Rattle.std.proofs.lemmas.Bool.{cond-true, cond_both}
use Rattle.sheets.specs.Meaning.{Meaning}
use Rattle.rules.specs.Bounds.{Number}
use Rattle.runs.specs.State.{State, finished, node}
use Rattle.runs.specs.Calls.{Call, stopped, further, progress, reply}
use Rattle.runs.specs.Promise.{asks_nodes, nodes_of}
use Rattle.runs.proofs.Cases.{at_call}

module _ (m : Meaning) (number : Number) where
  pub progress-finished : (k : ℕ) (s : State) → finished s ≡ true → progress m number k s ≡ stopped s
  progress-finished zero s end = refl
  progress-finished (suc k) s end = cond-true (finished s) (stopped s) (further (progress m number k (node m number s))) end

  progress-limit : (k : ℕ) (s : State) → (progress m number k s).nodes ≤ k
  progress-limit zero s = omega arith
  progress-limit (suc k) s =
      cond_both (finished s) (stopped s) (further (progress m number k (node m number s))) (λ p. p.nodes ≤ suc k)
      (λ _. omega arith)
      (λ _. omega (arith, progress-limit k (node m number s)))

  -- the nodes done are at most the grant
  pub reply-limit : (s : State) (call : Call) → nodes_of (reply m number s call).answer ≤ asks_nodes call
  reply-limit s =
      at_call m number s (λ call r. nodes_of r.answer ≤ asks_nodes call)
      (record { refusal = λ _ _. omega arith; grant = λ k. progress-limit k s; offer = λ _ _. omega arith; held = λ _ _ _ _. omega arith; ceil = omega arith })
