-- The points that sets earn.
use Rattle.std.specs.Prelude.{ℕ, ◌+◌, List, [], ◌∷◌}
use Rattle.sheets.specs.Meaning.{Meaning}

-- the sum of f over a list
abbrev pub total : (ℕ → ℕ) → List ℕ → ℕ
total f [] = 0
total f (x ∷ xs) = f x + total f xs

-- ρ(C, v): the points of v with each member of C
abbrev pub rho : Meaning → List ℕ → ℕ → ℕ
rho m C v = total (λ u. m.points u v) C

-- W(K): the points of all pairs within K, each pair once
abbrev pub weight : Meaning → List ℕ → ℕ
weight m [] = 0
weight m (v ∷ K) = rho m K v + weight m K

-- the gain of F over C: what F adds to the weight of C
abbrev pub gain : Meaning → List ℕ → List ℕ → ℕ
gain m C F = total (rho m C) F + weight m F
