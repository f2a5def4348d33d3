-- What is noted, as a function.
use Rattle.std.proofs.Common.{◌≡◌, ℕ, ◌<◌, true, cond, eqb, List, ◌∷◌, length, set, replicate, sym, ap, ◌∙◌, inl, inr, arith, get_or-set_other, get_or-set_same}
use mathlib.Core.Path.{fun_ext}
use Rattle.std.proofs.lemmas.List.{get_or-replicate, get_or_past, length-replicate}
use Rattle.std.proofs.lemmas.Bool.{cases_lt, eq-eqb, ne_eqb, cond-true, cond-false, cases_eq, eqb-true}
use Rattle.std.proofs.lemmas.Bool.Decides.{nat_tests}
use Rattle.candidates.specs.Sets.{is_in}
use Rattle.rules.specs.Noted.{at, noted}

pub at-zeros : (n : ℕ) → at (record { 0 = replicate n 0 }) ≡ (λ _. 0)
unfolding at
at-zeros n = fun_ext (λ k. elim (cases_lt k n) [
  | inl h ↦ get_or-replicate n k 0 0 h
  | inr h ↦ get_or_past (replicate n 0) k 0 (omega (arith, length-replicate {A = ℕ} n 0))
])

-- a write changes one number
pub at-set : (xs : List ℕ) (v x : ℕ) → v < length xs → at (record { 0 = set xs v x }) ≡ noted v x (at (record { 0 = xs }))
unfolding at
at-set xs v x h = fun_ext (λ k. elim (cases_eq k v) [
  | inl same ↦ ap (at (record { 0 = set xs v x })) same ∙ get_or-set_same xs v x 0 h ∙ sym (cond-true (eqb k v) x (at (record { 0 = xs }) k) (eq-eqb k v same))
  | inr other ↦ get_or-set_other xs v k x 0 other ∙ sym (cond-false (eqb k v) x (at (record { 0 = xs }) k) (ne_eqb k v other))
])

-- σ, with f for those of a list
abbrev pub filled : (ℕ → ℕ) → List ℕ → (ℕ → ℕ) → ℕ → ℕ
filled f xs σ k = cond (is_in k xs) (f k) (σ k)

pub filled-more : (f σ : ℕ → ℕ) (v : ℕ) (rest : List ℕ) → filled f rest (noted v (f v) σ) ≡ filled f (v ∷ rest) σ
filled-more f σ v rest = fun_ext each
  where
    each : (k : ℕ) → filled f rest (noted v (f v) σ) k ≡ filled f (v ∷ rest) σ k
    each k = let same : eqb k v ≡ true → f k ≡ f v = λ e. ap f (eqb-true k v e) in grind (arith, nat_tests)
