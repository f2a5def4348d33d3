-- What sums of points add up to, and how heavy a set can be.
use Rattle.std.proofs.Common.{◌≡◌, ℕ, zero, suc, ◌+◌, ◌*◌, ◌≤◌, true, List, [], ◌∷◌, ◌++◌, length, refl, arith}
use Rattle.candidates.specs.Sets.{is_in, Sub}
use Rattle.candidates.specs.Sets.Sub.{none, skip, keep}
use Rattle.candidates.proofs.Sets.{in-first, in_rest}
use Rattle.sheets.specs.Meaning.{Meaning, Lawful}
use Rattle.sheets.specs.Weights.{total, rho, weight, gain}

-- what is known of points: they are natural numbers
pub ruleset points = (arith)

pub total-append : (f : ℕ → ℕ) (xs ys : List ℕ) → total f (xs ++ ys) ≡ total f xs + total f ys
total-append f [] ys = omega points
total-append f (x ∷ xs) ys = omega (points, total-append f xs ys)

pub total-none : (xs : List ℕ) → total (λ _. 0) xs ≡ 0
total-none [] = refl
total-none (x ∷ xs) = omega (points, total-none xs)

pub total-sum : (f g : ℕ → ℕ) (xs : List ℕ) → total (λ x. f x + g x) xs ≡ total f xs + total g xs
total-sum f g [] = refl
total-sum f g (x ∷ xs) = omega (points, total-sum f g xs)

pub total-le : (f g : ℕ → ℕ) (xs : List ℕ) → ((k : ℕ) → is_in k xs ≡ true → f k ≤ g k) → total f xs ≤ total g xs
total-le f g [] le = omega points
total-le f g (x ∷ xs) le = omega (points, le x (in-first x xs), total-le f g xs (λ k e. le k (in_rest k x xs e)))

pub total-same : (f g : ℕ → ℕ) (xs : List ℕ) → ((k : ℕ) → is_in k xs ≡ true → f k ≡ g k) → total f xs ≡ total g xs
total-same f g xs same = omega (points, total-le f g xs (λ k e. omega (points, same k e)), total-le g f xs (λ k e. omega (points, same k e)))

pub rho-append : (m : Meaning) (C D : List ℕ) (v : ℕ) → rho m (C ++ D) v ≡ rho m C v + rho m D v
rho-append m C D v = total-append (λ u. m.points u v) C D

pub weight-append : (m : Meaning) → Lawful m → (C F : List ℕ) → weight m (C ++ F) ≡ weight m C + gain m C F
weight-append m law [] F = omega (points, total-none F)
weight-append m law (c ∷ C) F =
    omega (points, weight-append m law C F, rho-append m C F c, total-sum (λ v. m.points c v) (rho m C) F, total-same (λ u. m.points u c) (λ v. m.points c v) F (λ u _. law.points-both u c))

pub rho-limit : (m : Meaning) → Lawful m → (C : List ℕ) (v : ℕ) → rho m C v ≤ 65534 * length C
rho-limit m law [] v = omega points
rho-limit m law (c ∷ C) v = omega (points, law.highest c v, rho-limit m law C v)

-- how many pairs n have
abbrev pub pairs : ℕ → ℕ
pairs zero = 0
pairs (suc n) = n + pairs n

pub pairs-le : (a b : ℕ) → a ≤ b → pairs a ≤ pairs b
pairs-le zero b le = omega points
pairs-le (suc a) zero le = absurd (omega points)
pairs-le (suc a) (suc b) le = omega (points, pairs-le a b (omega points))

pub weight-pairs : (m : Meaning) → Lawful m → (K : List ℕ) → weight m K ≤ 65534 * pairs (length K)
weight-pairs m law [] = omega points
weight-pairs m law (v ∷ K) = omega (points, rho-limit m law K v, weight-pairs m law K)

pub weight-limit : (m : Meaning) → Lawful m → (K : List ℕ) → length K ≤ 256 → weight m K ≤ 2139029760
weight-limit m law K short = omega (points, weight-pairs m law K, pairs-le (length K) 256 short)

-- a part weighs no more than the whole
pub total-sub : (f : ℕ → ℕ) {K L : List ℕ} → Sub K L → total f K ≤ total f L
total-sub f none = omega points
total-sub f (skip s) = omega (points, total-sub f s)
total-sub f (keep s) = omega (points, total-sub f s)

pub weight-sub : (m : Meaning) {K L : List ℕ} → Sub K L → weight m K ≤ weight m L
weight-sub m none = omega points
weight-sub m (skip s) = omega (points, weight-sub m s)
weight-sub m (keep {x = v} s) = omega (points, total-sub (λ u. m.points u v) s, weight-sub m s)
