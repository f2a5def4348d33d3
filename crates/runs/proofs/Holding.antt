-- What an offer and a node do to what a search holds.
use Rattle.std.proofs.Common.{◌≡◌, ℕ, ◌<◌, ◌≤◌, true, false, List, Some, None, Option, refl, arith}
use Rattle.std.proofs.lemmas.Bool.{cond_both, ltb-true, ltb-false, leb-true}
use Rattle.std.proofs.lemmas.Bool.Decides.{nat_tests}
use Rattle.sheets.specs.Meaning.{Meaning}
use Rattle.sheets.specs.Weights.{weight}
use Rattle.sheets.specs.Cliques.{Clique}
use Rattle.rules.specs.Bounds.{Number}
use Rattle.runs.specs.State.{Held, weighed, State, takes, offered, reaches, node}
use Rattle.sheets.proofs.Weights.{points}
use Rattle.runs.proofs.Cases.{at-node}

-- if a set is held, it is a clique of its weight
abbrev pub Sound : Meaning → Option Held → Type 0
Sound m None = Unit {0}
Sound m (Some h) = Clique m h.set × (weight m h.set ≡ h.weight)

-- a set is held that weighs at least w
abbrev pub Holds : Option Held → ℕ → Type 0
Holds None w = ⊥
Holds (Some h) w = w ≤ h.weight

pub holds-less : (held : Option Held) (v w : ℕ) → Holds held w → v ≤ w → Holds held v
holds-less None v w h le = h
holds-less (Some g) v w h le = omega points

pub takes-above : (held : Option Held) (v w : ℕ) → takes held w ≡ true → Holds held v → v < w
takes-above None v w t h = absurd h
takes-above (Some g) v w t h = omega (points, ltb-true g.weight w t)

holds-not-taken : (held : Option Held) (w : ℕ) → takes held w ≡ false → Holds held w
holds-not-taken None w t = absurd (grind (arith, nat_tests))
holds-not-taken (Some g) w t = ltb-false g.weight w t

pub holds-reached : (held : Option Held) (b : ℕ) → reaches held b ≡ true → Holds held b
holds-reached None b t = absurd (grind (arith, nat_tests))
holds-reached (Some g) b t = leb-true b g.weight t

-- what holds of K if it is taken, and of what was held if it is not
pub at-offered : (m : Meaning) (held : Option Held) (K : List ℕ) (P : Option Held → Type 0) → (takes held (weight m K) ≡ true → P (Some (weighed m K))) → (takes held (weight m K) ≡ false → P held) → P (offered m held K)
at-offered m held K P yes' no' = cond_both (takes held (weight m K)) (Some (weighed m K)) held P yes' no'

module _ (m : Meaning) (held : Option Held) (K : List ℕ) where
  pub offered-holds : Holds (offered m held K) (weight m K)
  offered-holds = at-offered m held K (λ o. Holds o (weight m K)) (λ _. omega points) (holds-not-taken held (weight m K))

  pub offered-keeps : (w : ℕ) → Holds held w → Holds (offered m held K) w
  offered-keeps w h = at-offered m held K (λ o. Holds o w) (λ t. omega (points, takes-above held w (weight m K) t h)) (λ _. h)

  pub offered-sound : Clique m K → Sound m held → Sound m (offered m held K)
  offered-sound c s = at-offered m held K (Sound m) (λ _. (c, refl)) (λ _. s)

pub node-holds : (m : Meaning) (number : Number) (w : ℕ) (s : State) → Holds s.held w → Holds (node m number s).held w
node-holds m number w =
    at-node m number (λ s t. Holds s.held w → Holds t.held w)
    (record { idle = λ held h. h; leaf = λ held C mark below h. offered-keeps m held C w h; prune = λ held C S mark below _ h. h; branch = λ held C S v mark below h. h })
