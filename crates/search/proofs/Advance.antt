-- Node after node: what is left gives the whole.
use Rattle.std.proofs.Common.{◌≡◌, ℕ, suc, ◌+◌, ◌-◌, ◌<◌, false, sym, ap, ◌∙◌, arith}
use Rattle.std.proofs.lemmas.Bool.{cond-false}
use Rattle.rules.specs.Bounds.{Number}
use Rattle.runs.specs.Calls.{progress, stopped, further}
use Rattle.runs.specs.State.{State, finished, node}
use Rattle.sheets.specs.Meaning.{Meaning}

module _ (m : Meaning) (number : Number) where
  progress-suc : (k : ℕ) (s : State) → finished s ≡ false → progress m number (suc k) s ≡ further (progress m number k (node m number s))
  progress-suc k s more = cond-false (finished s) (stopped s) (further (progress m number k (node m number s))) more

  -- of k nodes from the state s, some are done, and t is reached
  pub record Advanced (k : ℕ) (s : State) (done : ℕ) (t : State) : Type 0 where
    pub nodes : done + (progress m number (k - done) t).nodes ≡ (progress m number k s).nodes
    pub state : (progress m number (k - done) t).reached ≡ (progress m number k s).reached

  pub advanced-more : (k : ℕ) (s : State) (done : ℕ) (t u : State) → done < k → finished t ≡ false → u ≡ node m number t → Advanced k s done t → Advanced k s (done + 1) u
  advanced-more k s done t u below more next a =
      let same : k - done ≡ suc (k - (done + 1)) = omega arith in
      let step = ap (λ n. progress m number n t) same ∙ progress-suc (k - (done + 1)) t more ∙ ap (λ x. further (progress m number (k - (done + 1)) x)) (sym next) in
      record { nodes = omega (arith, a.nodes, ap (λ p. p.nodes) step); state = sym (ap (λ p. p.reached) step) ∙ a.state }
