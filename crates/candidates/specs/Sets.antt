-- Sets of numbers as ascending lists: what membership is, and what adding, removing and intersecting do to the list.
use Rattle.std.specs.Prelude.{◌≡◌, ℕ, zero, suc, ◌≤◌, Bool, true, false, cond, not, ◌||◌, List, [], ◌∷◌, Some, None, filter, Option, ◌==◌, nat_lt}

-- whether k is in the set
abbrev pub is_in : ℕ → List ℕ → Bool
is_in k [] = false
is_in k (x ∷ xs) = k == x || is_in k xs

-- every member of the first is in the second
abbrev pub Within : List ℕ → List ℕ → Type 0
Within xs ys = (k : ℕ) → is_in k xs ≡ true → is_in k ys ≡ true

-- the members rise, and the first is at least a
abbrev pub From : ℕ → List ℕ → Type 0
From a [] = Unit {0}
From a (x ∷ xs) = (a ≤ x) × From (suc x) xs

abbrev pub Ascending : List ℕ → Type 0
Ascending xs = From 0 xs

-- the n numbers from a on
abbrev pub counting : ℕ → ℕ → List ℕ
counting a zero = []
counting a (suc n) = a ∷ counting (suc a) n

-- v put in at its place, once
abbrev pub inserted : ℕ → List ℕ → List ℕ
inserted v [] = v ∷ []
inserted v (x ∷ xs) = cond (nat_lt v x) (v ∷ (x ∷ xs)) (cond (v == x) (x ∷ xs) (x ∷ inserted v xs))

-- all but v
abbrev pub removed : ℕ → List ℕ → List ℕ
removed v xs = filter (λ x. not (x == v)) xs

-- those of the first that are in the second too
abbrev pub common : List ℕ → List ℕ → List ℕ
common xs ys = filter (λ x. is_in x ys) xs

-- those of the first that are not in the second
abbrev pub without : List ℕ → List ℕ → List ℕ
without xs ys = filter (λ x. not (is_in x ys)) xs

-- the lowest member; an empty set has none
abbrev pub least : List ℕ → Option ℕ
least [] = None
least (x ∷ xs) = Some x

-- a part of the second, in the same order
pub data Sub : List ℕ → List ℕ → Type 0 where
  none : Sub [] []
  skip : {y : ℕ} {xs ys : List ℕ} → Sub xs ys → Sub xs (y ∷ ys)
  keep : {x : ℕ} {xs ys : List ℕ} → Sub xs ys → Sub (x ∷ xs) (x ∷ ys)
