-- The colour rule: S falls into classes in which no two fit, so that a clique has at most one member of each.
use Rattle.std.specs.Prelude.{◌≡◌, ℕ, zero, suc, ◌+◌, true, false, cond, not, List, [], ◌∷◌, map, length, filter, slice_index_or}
use Rattle.candidates.specs.Sets.{is_in, removed, without}
use Rattle.sheets.specs.Meaning.{Meaning}
use Rattle.sheets.specs.Weights.{rho}
use Rattle.rules.specs.Bounds.{Number}
use Rattle.rules.specs.Greatest.{greatest}
use Rattle.rules.specs.Least.{least_by}

-- σ at the start: ρ(C, v) for each v in S
abbrev pub started : Meaning → List ℕ → List ℕ → ℕ → ℕ
started m C S v = cond (is_in v S) (rho m C v) 0

-- those that can still join a class when v has joined it
abbrev pub joinable : Meaning → ℕ → List ℕ → List ℕ
joinable m v xs = filter (λ u. not (m.fit v u)) (removed v xs)

-- A class in the order of picking, from those that can join it: the one of least σ joins, until there is none.
-- The number bounds the picks, and that of `coloured` the classes: the length of the list is enough.
abbrev pub class : Meaning → (ℕ → ℕ) → ℕ → List ℕ → List ℕ
class m σ n [] = []
class m σ zero (x ∷ xs) = []
class m σ (suc n) (x ∷ xs) = let v = least_by σ x xs in v ∷ class m σ n (joinable m v (x ∷ xs))

-- the class that is picked from all of xs
abbrev pub class_of : Meaning → (ℕ → ℕ) → List ℕ → List ℕ
class_of m σ xs = class m σ (length xs) xs

-- the greatest of the points of v with members of K
abbrev pub rise : Meaning → List ℕ → ℕ → ℕ
rise m K v = greatest (λ u. m.points u v) K

-- σ when the class K is closed: it rises for each that is left
abbrev pub raised : Meaning → List ℕ → List ℕ → (ℕ → ℕ) → ℕ → ℕ
raised m K left σ v = cond (is_in v left) (σ v + rise m K v) (σ v)

-- a closed class, and the greatest σ in it
pub record Class : Type 0 where
  pub members : List ℕ
  pub highest : ℕ

-- the classes that the uncoloured fall into
abbrev pub coloured : Meaning → ℕ → (ℕ → ℕ) → List ℕ → List Class
coloured m n σ [] = []
coloured m zero σ (x ∷ xs) = []
coloured m (suc n) σ (x ∷ xs) =
    let K = class_of m σ (x ∷ xs) in
    let left = without (x ∷ xs) K in
    record { members = K; highest = greatest σ K } ∷ coloured m n (raised m K left σ) left

abbrev pub colouring : Meaning → List ℕ → List ℕ → List Class
colouring m C S = coloured m (length S) (started m C S) S

abbrev pub classes : Meaning → List ℕ → List ℕ → List (List ℕ)
classes m C S = map (λ c. c.members) (colouring m C S)

abbrev pub sum_of_highest : List Class → ℕ
sum_of_highest [] = 0
sum_of_highest (c ∷ cs) = c.highest + sum_of_highest cs

-- the sum, over the classes, of the greatest σ in each
abbrev pub colour : Number
colour m C S = sum_of_highest (colouring m C S)

-- no two of K fit
abbrev pub Independent : Meaning → List ℕ → Type 0
Independent m K = (u v : ℕ) → is_in u K ≡ true → is_in v K ≡ true → m.fit u v ≡ false

-- Each of S is in one class, and no two of a class fit. (A proper colouring.)
pub record Partition (m : Meaning) (S : List ℕ) (Ks : List (List ℕ)) : Type 0 where
  pub independent : (i : ℕ) → Independent m (slice_index_or Ks i [])
  pub disjoint : (i j k : ℕ) → is_in k (slice_index_or Ks i []) ≡ true → is_in k (slice_index_or Ks j []) ≡ true → i ≡ j
  pub within : (i k : ℕ) → is_in k (slice_index_or Ks i []) ≡ true → is_in k S ≡ true
  pub cover : (k : ℕ) → is_in k S ≡ true → (i : ℕ) × (is_in k (slice_index_or Ks i []) ≡ true)
