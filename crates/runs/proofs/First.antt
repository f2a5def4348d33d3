-- A leaf that is taken is the first of its weight: whatever is as heavy is pending below it, and so comes later.
use Rattle.std.proofs.Common.{◌≡◌, ℕ, true, List, [], ◌∷◌, Some, None, Option, subst, inl, inr}
use Rattle.candidates.specs.Order.{Earlier}
use Rattle.sheets.specs.Meaning.{Meaning}
use Rattle.sheets.specs.Weights.{weight}
use Rattle.sheets.specs.Cliques.{Clique}
use Rattle.sheets.proofs.Comes.{comes-itself, comes-none}
use Rattle.rules.specs.Bounds.{Number}
use Rattle.runs.specs.State.{Frame, frame, Held, weighed, State, state, takes, node}
use Rattle.sheets.proofs.Weights.{points}
use Rattle.runs.proofs.Cases.{at-node}
use Rattle.runs.proofs.Holding.{Holds, takes-above, at-offered}
use Rattle.runs.proofs.Invariant.{Invariant}

-- if the held set weighs w, it is earlier than every other clique of that weight
abbrev pub FirstAt : Meaning → ℕ → Option Held → Type 0
FirstAt m w None = Unit {0}
FirstAt m w (Some h) = h.weight ≡ w → (J : List ℕ) → Clique m J → weight m J ≡ w → (J ≡ h.set → ⊥) → Earlier h.set J

leaf_first : (m : Meaning) (w : ℕ) (held : Option Held) (C : List ℕ) (mark : ℕ) (below : List Frame) → Invariant m (state held (frame C [] mark ∷ below)) → takes held (weight m C) ≡ true → FirstAt m w (Some (weighed m C))
leaf_first m w held C mark below i t this J j same differ = elim (i.complete J j) [
  | inl (inl k) ↦ absurd (differ (comes-none k))
  | inl (inr p) ↦ i.frames.0.earlier C J (comes-itself m C []) p
  | inr h ↦ absurd (omega (points, takes-above held w w (subst (λ x. takes held x ≡ true) this t) (subst (Holds held) same h)))
]

pub node-first : (m : Meaning) (number : Number) (w : ℕ) (s : State) → Invariant m s → FirstAt m w s.held → FirstAt m w (node m number s).held
node-first m number w =
    at-node m number (λ s t. Invariant m s → FirstAt m w s.held → FirstAt m w t.held)
    (record {
      idle = λ held _ first. first;
      leaf = λ held C mark below i first. at-offered m held C (FirstAt m w) (leaf_first m w held C mark below i) (λ _. first);
      prune = λ held C S mark below _ _ first. first;
      branch = λ held C S v mark below _ first. first;
    })
