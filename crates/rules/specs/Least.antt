-- The place of the least value of a function over a list.
use Rattle.std.specs.Prelude.{◌≡◌, ℕ, true, cond, List, [], ◌∷◌, Some, None, Option, ◌==◌, nat_lt}
use Rattle.std.proofs.Common.{inl, inr}
use Rattle.std.proofs.lemmas.Bool.{or_left, or_cases, cond_both}
use Rattle.candidates.specs.Sets.{is_in}
use Rattle.candidates.proofs.Sets.{in-first, in_rest}

-- the one of least σ among v and those of xs, the first on a tie
abbrev pub least_by : (ℕ → ℕ) → ℕ → List ℕ → ℕ
least_by σ v [] = v
least_by σ v (x ∷ xs) = least_by σ (cond (nat_lt (σ x) (σ v)) x v) xs

-- the one of least σ in a set; an empty set has none
abbrev pub least_of : (ℕ → ℕ) → List ℕ → Option ℕ
least_of σ [] = None
least_of σ (x ∷ xs) = Some (least_by σ x xs)

pub least_by-in : (σ : ℕ → ℕ) (v : ℕ) (xs : List ℕ) → is_in (least_by σ v xs) (v ∷ xs) ≡ true
least_by-in σ v [] = in-first v []
least_by-in σ v (x ∷ xs) =
    cond_both (nat_lt (σ x) (σ v)) x v (λ y. is_in (least_by σ y xs) (v ∷ x ∷ xs) ≡ true)
    (λ _. in_rest (least_by σ x xs) v (x ∷ xs) (least_by-in σ x xs))
    (λ _. let k = least_by σ v xs in elim (or_cases (k == v) (is_in k xs) (least_by-in σ v xs)) [
      | inl same ↦ or_left (k == v) (is_in k (x ∷ xs)) same
      | inr more ↦ in_rest k v (x ∷ xs) (in_rest k x xs more)
    ])
