-- The laws of a sheet hold of every sheet whose points are known by key.
use Rattle.std.specs.Prelude.{◌≡◌, ℕ, ◌+◌, ◌*◌, ◌≤◌, min, max, false, ◌&&◌, is_some, Some, None, Option, nat_lt, refl}
use Rattle.std.proofs.Common.{ap}
use native.Mathlib.Omega.{arith}
use Rattle.std.proofs.lemmas.Bool.{true≢false, and_left, and_right, le-ltb, ltb-true, cond-false, cond_both}
use Rattle.sheets.specs.Meaning.{Lawful}
use Rattle.blocks.specs.Format.{known, fair, or_zero, sheet_by}

fair-limit : (o : Option ℕ) → or_zero (fair o) ≤ 65534
fair-limit None = omega arith
fair-limit (Some p) =
    cond_both (nat_lt p 65535) (Some p) None (λ o. or_zero o ≤ 65534) (λ less. omega (arith, ltb-true p 65535 less)) (λ _. omega arith)

none-zero : (o : Option ℕ) → is_some o ≡ false → or_zero o ≡ 0
none-zero None e = refl
none-zero (Some p) e = absurd (true≢false e)

module _ (n : ℕ) (points : ℕ → Option ℕ) where
  known_both : (u v : ℕ) → known n points u v ≡ known n points v u
  unfolding known
  known_both u v =
      let low : min u v ≡ min v u = omega arith in
      let high : max u v ≡ max v u = omega arith in
      rw (low, high)

  known-itself : (u : ℕ) → known n points u u ≡ None
  unfolding known
  known-itself u =
      cond-false (nat_lt (min u u) (max u u) && nat_lt (max u u) n) (fair (points (min u u + 256 * max u u))) None (and_left (nat_lt (min u u) (max u u)) (nat_lt (max u u) n) (le-ltb (min u u) (max u u) (omega arith)))

  known-outside : (u v : ℕ) → n ≤ u → known n points u v ≡ None
  unfolding known
  known-outside u v past =
      cond-false (nat_lt (min u v) (max u v) && nat_lt (max u v) n) (fair (points (min u v + 256 * max u v))) None (and_right (nat_lt (min u v) (max u v)) (nat_lt (max u v) n) (le-ltb (max u v) n (omega arith)))

  known-limit : (u v : ℕ) → or_zero (known n points u v) ≤ 65534
  unfolding known
  known-limit u v =
      cond_both (nat_lt (min u v) (max u v) && nat_lt (max u v) n) (fair (points (min u v + 256 * max u v))) None (λ o. or_zero o ≤ 65534) (λ _. fair-limit (points (min u v + 256 * max u v))) (λ _. omega arith)

  pub sheet_by-lawful : 1 ≤ n → n ≤ 256 → Lawful (sheet_by n points)
  sheet_by-lawful some most = record {
    least = some;
    most = most;
    fit-both = λ u v. ap is_some (known_both u v);
    points-both = λ u v. ap or_zero (known_both u v);
    not_itself = λ u. ap is_some (known-itself u);
    no-points = λ u v. none-zero (known n points u v);
    outside = λ u v past. ap is_some (known-outside u v past);
    highest = known-limit;
  }
