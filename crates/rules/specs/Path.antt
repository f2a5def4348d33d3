-- The path rule: the longest path upwards through S, from each member to a higher one that fits it.
use Rattle.std.specs.Prelude.{ℕ, ◌+◌, max, List, [], ◌∷◌, ◌++◌, filter}
use Rattle.sheets.specs.Meaning.{Meaning}
use Rattle.sheets.specs.Weights.{rho}
use Rattle.rules.specs.Bounds.{Number}
use Rattle.rules.specs.Greatest.{greatest}
use Rattle.rules.specs.Noted.{noted}

-- the length of v, where the lower members of S have the lengths that ℓ says
abbrev pub length_of : Meaning → List ℕ → List ℕ → (ℕ → ℕ) → ℕ → ℕ
length_of m C lower ℓ v = rho m C v + rho m lower v + greatest ℓ (filter (m.fit v) lower)

-- the greatest length of those that are still to come, upwards
abbrev pub longest : Meaning → List ℕ → List ℕ → (ℕ → ℕ) → List ℕ → ℕ
longest m C lower ℓ [] = 0
longest m C lower ℓ (v ∷ higher) =
    let x = length_of m C lower ℓ v in
    max x (longest m C (lower ++ (v ∷ [])) (noted v x ℓ) higher)

abbrev pub path : Number
path m C S = longest m C [] (λ _. 0) S
