-- No clique outweighs the ceiling, and neither a node nor an offer raises it.
use Rattle.std.proofs.Common.{ℕ, ◌≤◌, min, max, List, [], ◌∷◌, Some, None, Option, inl, inr, ⊎_elim}
use Rattle.sheets.specs.Meaning.{Meaning}
use Rattle.sheets.specs.Weights.{weight}
use Rattle.sheets.specs.Cliques.{Clique}
use Rattle.rules.specs.Bounds.{Number}
use Rattle.runs.specs.State.{Frame, frame, Held, State, state, offered, bound, branch, node, highest, with_held, ceiling}
use Rattle.sheets.proofs.Weights.{points}
use Rattle.runs.proofs.Cases.{at-node}
use Rattle.runs.proofs.Holding.{Holds, at-offered}
use Rattle.runs.proofs.Invariant.{Pending, AllInPlace, Invariant, clique-open}

with_held-above : (held : Option Held) (c : ℕ) → c ≤ with_held held c
with_held-above None c = omega points
with_held-above (Some h) c = omega points

with_held-holds : (held : Option Held) (c w : ℕ) → Holds held w → w ≤ with_held held c
with_held-holds None c w h = absurd h
with_held-holds (Some g) c w h = omega points

with_held-le : (held : Option Held) (c d : ℕ) → c ≤ d → with_held held c ≤ with_held held d
with_held-le None c d le = le
with_held-le (Some h) c d le = omega points

with_held-offered : (m : Meaning) (held : Option Held) (K : List ℕ) (c d : ℕ) → c ≤ d → weight m K ≤ with_held held d → with_held (offered m held K) c ≤ with_held held d
with_held-offered m held K c d le most = at-offered m held K (λ o. with_held o c ≤ with_held held d) (λ _. omega (points, with_held-above held d)) (λ _. with_held-le held c d le)

pending-marked : (m : Meaning) (stack : List Frame) (K : List ℕ) → AllInPlace m stack → Pending m stack K → weight m K ≤ highest stack
pending-marked m [] K ls p = absurd p
pending-marked m (f ∷ below) K ls (inl k) = omega (points, ls.0.marked K k)
pending-marked m (f ∷ below) K ls (inr p) = omega (points, pending-marked m below K ls.1 p)

pub ceiling-covers : (m : Meaning) (s : State) → Invariant m s → (K : List ℕ) → Clique m K → weight m K ≤ ceiling s
ceiling-covers m s i K c =
    ⊎_elim
    (λ p. omega (points, pending-marked m s.stack K i.frames p, with_held-above s.held (highest s.stack)))
    (with_held-holds s.held (highest s.stack) (weight m K))
    (i.complete K c)

pub ceiling-offered : (m : Meaning) (s : State) (K : List ℕ) → Clique m K → Invariant m s → ceiling (state (offered m s.held K) s.stack) ≤ ceiling s
ceiling-offered m s K c i = with_held-offered m s.held K (highest s.stack) (highest s.stack) (omega points) (ceiling-covers m s i K c)

pub ceiling-node : (m : Meaning) (number : Number) (s : State) → Invariant m s → ceiling (node m number s) ≤ ceiling s
ceiling-node m number =
    at-node m number (λ s t. Invariant m s → ceiling t ≤ ceiling s)
    (record {
      idle = λ held _. omega points;
      leaf = λ held C mark below i. with_held-offered m held C (highest below) (max mark (highest below)) (omega points) (ceiling-covers m (state held (frame C [] mark ∷ below)) i C (clique-open i.frames.0.opens));
      prune = λ held C S mark below _ _. with_held-le held (highest below) (max mark (highest below)) (omega points);
      branch = λ held C S v mark below _. with_held-le held (highest (branch m C v S (min mark (bound m number C (v ∷ S))) below)) (max mark (highest below)) (omega points);
    })
