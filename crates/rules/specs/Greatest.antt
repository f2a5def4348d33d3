-- The greatest value of a function over a list.
use Rattle.std.specs.Prelude.{◌≡◌, ℕ, ◌≤◌, max, true, List, [], ◌∷◌, ◌==◌}
use Rattle.std.proofs.Common.{inl, inr, ap, arith}
use Rattle.std.proofs.lemmas.Bool.{or_cases, eqb-true, false≢true}
use Rattle.candidates.specs.Sets.{is_in}
use Rattle.candidates.proofs.Sets.{in-first, in_rest}

-- 0 where the list is empty
abbrev pub greatest : (ℕ → ℕ) → List ℕ → ℕ
greatest f [] = 0
greatest f (x ∷ xs) = max (f x) (greatest f xs)

pub le-greatest : (f : ℕ → ℕ) (k : ℕ) (xs : List ℕ) → is_in k xs ≡ true → f k ≤ greatest f xs
le-greatest f k [] e = absurd (false≢true e)
le-greatest f k (x ∷ xs) e = elim (or_cases (k == x) (is_in k xs) e) [
  | inl same ↦ omega (arith, ap f (eqb-true k x same))
  | inr more ↦ omega (arith, le-greatest f k xs more)
]

pub greatest-le : (f : ℕ → ℕ) (n : ℕ) (xs : List ℕ) → ((k : ℕ) → is_in k xs ≡ true → f k ≤ n) → greatest f xs ≤ n
greatest-le f n [] le = omega arith
greatest-le f n (x ∷ xs) le = omega (arith, le x (in-first x xs), greatest-le f n xs (λ k e. le k (in_rest k x xs e)))
