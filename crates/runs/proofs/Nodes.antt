-- How many nodes there can be: a frame with k in its rest has a tree of 2 ^ (k + 1) - 1 nodes at most.
use Rattle.std.proofs.Common.{◌≡◌, ℕ, zero, suc, ◌+◌, ◌^◌, ◌<◌, ◌≤◌, true, false, List, [], ◌∷◌, length, filter, refl, ap, pow-suc, arith}
use Rattle.std.proofs.lemmas.Bool.{both_ways, cond_both}
use Rattle.candidates.proofs.Sets.{length-sub, sub-kept-by, length-counting}
use Rattle.sheets.specs.Meaning.{Meaning}
use Rattle.rules.specs.Bounds.{Number}
use Rattle.runs.specs.State.{Frame, State, start, finished, node}
use Rattle.runs.specs.Calls.{stopped, further, progress}
use Rattle.runs.proofs.Cases.{at-node}

abbrev tree : ℕ → ℕ
tree zero = 1
tree (suc k) = suc (tree k + tree k)

tree-le : (j k : ℕ) → j ≤ k → tree j ≤ tree k
tree-le zero zero le = omega arith
tree-le zero (suc k) le = omega arith
tree-le (suc j) zero le = absurd (omega arith)
tree-le (suc j) (suc k) le = omega (arith, tree-le j k (omega arith))

tree-power : (k : ℕ) → suc (tree k) ≡ 2 ^ suc k
tree-power zero = refl
tree-power (suc k) = omega (arith, tree-power k, pow-suc 2 (suc k))

-- the nodes that the frames of a stack can have
abbrev pub cost : List Frame → ℕ
cost [] = 0
cost (f ∷ below) = tree (length f.rest) + cost below

pub cost-start : (m : Meaning) → cost (start m).stack < 2 ^ suc m.size
cost-start m = rw length-counting (omega (arith, tree-power m.size))

module _ (m : Meaning) (number : Number) where
  node-cost : (s : State) → finished s ≡ false → cost (node m number s).stack < cost s.stack
  node-cost =
      at-node m number (λ s t. finished s ≡ false → cost t.stack < cost s.stack)
      (record {
        idle = λ held e. absurd (both_ways true e refl);
        leaf = λ held C mark below _. omega arith;
        prune = λ held C S mark below _ _. omega (arith, tree-le 0 (length S) (omega arith));
        branch = λ held C S v mark below _. omega (arith, tree-le (length (filter (m.fit v) S)) (length S) (length-sub (sub-kept-by (m.fit v) S)));
      })

  -- the nodes done are paid for by what the stack costs
  pub progress-cost : (k : ℕ) (s : State) → (progress m number k s).nodes + cost (progress m number k s).reached.stack ≤ cost s.stack
  progress-cost zero s = omega arith
  progress-cost (suc k) s =
      let on = progress m number k (node m number s) in
      cond_both (finished s) (stopped s) (further on) (λ p. p.nodes + cost p.reached.stack ≤ cost s.stack)
      (λ _. omega arith)
      (λ e. omega (arith, progress-cost k (node m number s), node-cost s e))

  -- a search that is not finished has done all that it was granted
  pub progress-all : (k : ℕ) (s : State) → finished (progress m number k s).reached ≡ false → (progress m number k s).nodes ≡ k
  progress-all zero s = λ _. refl
  progress-all (suc k) s =
      cond_both (finished s) (stopped s) (further (progress m number k (node m number s))) (λ p. finished p.reached ≡ false → p.nodes ≡ suc k)
      (λ e going. absurd (both_ways (finished s) going e))
      (λ _ going. ap suc (progress-all k (node m number s) going))
