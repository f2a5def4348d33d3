-- The colour rule one class after another, and a class one pick after another.
use Rattle.std.proofs.Common.{◌≡◌, ℕ, zero, suc, ◌+◌, ◌<◌, ◌≤◌, true, cond, not, eqb, List, [], ◌∷◌, length, is_some, Some, sym, refl, ap, ◌∙◌, subst, arith}
use mathlib.Core.Path.{fun_ext}
use Rattle.std.proofs.lemmas.Bool.{false≢true, eq-eqb, not_from_true}
use Rattle.candidates.specs.Sets.{is_in, removed, without}
use Rattle.candidates.proofs.Sets.{kept-by-same, sub-kept-by, length-sub}
use Rattle.sheets.specs.Meaning.{Meaning}
use Rattle.rules.specs.Greatest.{greatest, le-greatest, greatest-le}
use Rattle.rules.specs.Least.{least_by, least_of, least_by-in}
use Rattle.rules.specs.Colour.{joinable, class, class_of, raised, coloured, sum_of_highest}
use Rattle.rules.specs.Classes.{length-kept-by-less, length-left}

-- ---- the one of least σ

pub least_of-in : (σ : ℕ → ℕ) (v : ℕ) (xs : List ℕ) → Some v ≡ least_of σ xs → is_in v xs ≡ true
least_of-in σ v [] is = absurd (false≢true (ap is_some (sym is)))
least_of-in σ v (x ∷ xs) is = let same : least_by σ x xs ≡ v = cc in subst (λ y. is_in y (x ∷ xs) ≡ true) same (least_by-in σ x xs)

-- ---- a class

length-joinable : (m : Meaning) (v : ℕ) (xs : List ℕ) → is_in v xs ≡ true → length (joinable m v xs) < length xs
length-joinable m v xs e =
    let taken = length-kept-by-less (λ u. not (eqb u v)) v xs e (not_from_true (eqb v v) (eq-eqb v v refl)) in
    omega (arith, length-sub (sub-kept-by (λ u. not (m.fit v u)) (removed v xs)))

-- more picks than there are candidates change nothing
class-enough : (m : Meaning) (σ : ℕ → ℕ) (n k : ℕ) (xs : List ℕ) → length xs ≤ n → length xs ≤ k → class m σ n xs ≡ class m σ k xs
class-enough m σ n k [] h g = refl
class-enough m σ zero k (x ∷ xs) h g = absurd (omega arith)
class-enough m σ (suc n) zero (x ∷ xs) h g = absurd (omega arith)
class-enough m σ (suc n) (suc k) (x ∷ xs) h g =
    let v = least_by σ x xs in
    let fewer = length-joinable m v (x ∷ xs) (least_by-in σ x xs) in
    ap (λ l. v ∷ l) (class-enough m σ n k (joinable m v (x ∷ xs)) (omega arith) (omega arith))

pub joinable-less : (m : Meaning) (σ : ℕ → ℕ) (v : ℕ) (xs : List ℕ) → Some v ≡ least_of σ xs → length (joinable m v xs) < length xs
joinable-less m σ v xs is = length-joinable m v xs (least_of-in σ v xs is)

pub class_of-more : (m : Meaning) (σ : ℕ → ℕ) (v : ℕ) (xs : List ℕ) → Some v ≡ least_of σ xs → class_of m σ xs ≡ v ∷ class_of m σ (joinable m v xs)
class_of-more m σ v [] is = absurd (false≢true (ap is_some (sym is)))
class_of-more m σ v (x ∷ xs) is =
    let same : least_by σ x xs ≡ v = cc in
    let rest = joinable m (least_by σ x xs) (x ∷ xs) in
    let fewer = length-joinable m (least_by σ x xs) (x ∷ xs) (least_by-in σ x xs) in
    ap (λ l. least_by σ x xs ∷ l) (class-enough m σ (length xs) (length rest) rest (omega arith) (omega arith))
    ∙ ap (λ y. y ∷ class_of m σ (joinable m y (x ∷ xs))) same

-- ---- the classes

-- more classes than there are candidates change nothing
coloured-enough : (m : Meaning) (n k : ℕ) (σ : ℕ → ℕ) (xs : List ℕ) → length xs ≤ n → length xs ≤ k → sum_of_highest (coloured m n σ xs) ≡ sum_of_highest (coloured m k σ xs)
coloured-enough m n k σ [] h g = refl
coloured-enough m zero k σ (x ∷ xs) h g = absurd (omega arith)
coloured-enough m (suc n) zero σ (x ∷ xs) h g = absurd (omega arith)
coloured-enough m (suc n) (suc k) σ (x ∷ xs) h g =
    let K = class_of m σ (x ∷ xs) in
    let left = without (x ∷ xs) K in
    let fewer = length-left m σ (length xs) x xs in
    ap (λ s. greatest σ K + s) (coloured-enough m n k (raised m K left σ) left (omega arith) (omega arith))

greatest-within : (f : ℕ → ℕ) (xs ys : List ℕ) → ((k : ℕ) → is_in k xs ≡ is_in k ys) → greatest f xs ≤ greatest f ys
greatest-within f xs ys same = greatest-le f (greatest f ys) xs (λ k e. le-greatest f k ys (sym (same k) ∙ e))

greatest-same : (f : ℕ → ℕ) (xs ys : List ℕ) → ((k : ℕ) → is_in k xs ≡ is_in k ys) → greatest f xs ≡ greatest f ys
greatest-same f xs ys same = omega (arith, greatest-within f xs ys same, greatest-within f ys xs (λ k. sym (same k)))

raised-same : (m : Meaning) (K L left : List ℕ) (σ : ℕ → ℕ) → ((k : ℕ) → is_in k K ≡ is_in k L) → raised m K left σ ≡ raised m L left σ
raised-same m K L left σ same = fun_ext (λ k. ap (λ y. cond (is_in k left) (σ k + y) (σ k)) (greatest-same (λ u. m.points u k) K L same))

without-same : (xs K L : List ℕ) → ((k : ℕ) → is_in k K ≡ is_in k L) → without xs K ≡ without xs L
without-same xs K L same = kept-by-same (λ x. not (is_in x K)) (λ x. not (is_in x L)) xs (λ k _. ap not (same k))

-- L has the members of the class that is closed, in any order
pub left_less : (m : Meaning) (σ : ℕ → ℕ) (xs L : List ℕ) → (xs ≡ [] → ⊥) → ((k : ℕ) → is_in k L ≡ is_in k (class_of m σ xs)) → length (without xs L) < length xs
left_less m σ [] L some same = absurd (some refl)
left_less m σ (x ∷ xs) L some same = omega (arith, ap length (without-same (x ∷ xs) L (class_of m σ (x ∷ xs)) same), length-left m σ (length xs) x xs)

pub coloured-more : (m : Meaning) (σ : ℕ → ℕ) (xs L : List ℕ) → (xs ≡ [] → ⊥) → ((k : ℕ) → is_in k L ≡ is_in k (class_of m σ xs)) → sum_of_highest (coloured m (length xs) σ xs) ≡ greatest σ L + sum_of_highest (coloured m (length (without xs L)) (raised m L (without xs L) σ) (without xs L))
coloured-more m σ [] L some same = absurd (some refl)
coloured-more m σ (x ∷ xs) L some same =
    let K = class_of m σ (x ∷ xs) in
    let left = without (x ∷ xs) K in
    let rest : List ℕ → List ℕ → ℕ = λ J l. sum_of_highest (coloured m (length l) (raised m J l σ) l) in
    let turned = λ (k : ℕ). sym (same k) in
    let fewer = length-left m σ (length xs) x xs in
    ap (λ s. greatest σ K + s) (coloured-enough m (length xs) (length left) (raised m K left σ) left fewer (omega arith))
    ∙ ap (λ l. greatest σ K + rest K l) (without-same (x ∷ xs) K L turned)
    ∙ (λ i. greatest-same σ K L turned i + sum_of_highest (coloured m (length (without (x ∷ xs) L)) (raised-same m K L (without (x ∷ xs) L) σ turned i) (without (x ∷ xs) L)))
