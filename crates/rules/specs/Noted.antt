-- A number noted for each candidate, as a function.
use Rattle.std.specs.Prelude.{ℕ, ◌≤◌, cond, ◌==◌, slice_index}
use Rattle.rules.specs.declared.noted.Noted.{Noted}

-- the number of k, 0 from 256 on
unfoldable pub at : Noted → ℕ → ℕ
at n k = slice_index n.0 k

-- ℓ, with x for v
abbrev pub noted : ℕ → ℕ → (ℕ → ℕ) → ℕ → ℕ
noted v x ℓ k = cond (k == v) x (ℓ k)

-- no number is above the most
abbrev pub AtMost : ℕ → (ℕ → ℕ) → Type 0
AtMost most σ = (k : ℕ) → σ k ≤ most
