-- An array that is made by calls of a closure that stays as it is.
use Rattle.std.proofs.Common.{◌≡◌, ℕ, zero, suc, ◌+◌, ◌<◌, ◌≤◌, List, get_or, sym, subst, inl, inr, arith}
use Rattle.std.proofs.lemmas.Bool.{cases_eq}
use Rattle.std.specs.Array.{IsFromFnResultFrom}
use Rattle.std.specs.Fn.{Called, Mut}

-- what holds of what each call gives holds of each entry
pub made : {F X : Type 0} {g : Mut F (ℕ × Unit {0}) X} (P : ℕ → X → Type 0) (f : F) (ys : List X) (d : X) → ((k : ℕ) (y : X) (q : F) → Called g f (k, tt) y q → (q ≡ f) × P k y) → (n i : ℕ) → IsFromFnResultFrom g f ys i n → (k : ℕ) → i ≤ k → k < i + n → P k (get_or ys k d)
made P f ys d calls zero i each k low high = absurd (omega arith)
made {g = g} P f ys d calls (suc n) i (q, y, at, called, rest) k low high =
    elim (cases_eq i k) [
      | inl same ↦ subst (λ j. P j (get_or ys j d)) same (subst (P i) (sym (at.1 d)) (calls i y q called).1)
      | inr other ↦ made P f ys d calls n (i + 1) (subst (λ s. IsFromFnResultFrom g s ys (i + 1) n) (calls i y q called).0 rest) k (omega arith) (omega arith)
    ]
