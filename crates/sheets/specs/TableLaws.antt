-- The laws of a sheet hold of every table.
use Rattle.std.specs.Prelude.{◌≡◌, ℕ, ◌<◌, ◌≤◌, min, max, true, cond, ◌&&◌, List, nat_lt}
use Rattle.std.proofs.Common.{arith}
use Rattle.std.proofs.lemmas.Bool.{and_left, and_right, and_parts, le-ltb, ltb-true, cond-false, cond_both}
use Rattle.sheets.specs.Meaning.{Lawful}
use Rattle.sheets.specs.Tables.{entry, table_fit, table}

entry-both : (xs : List ℕ) (u v : ℕ) → entry xs u v ≡ entry xs v u
entry-both xs u v =
    let low : min u v ≡ min v u = omega arith in
    let high : max u v ≡ max v u = omega arith in
    rw (low, high)

fit-both : (n : ℕ) (xs : List ℕ) (u v : ℕ) → table_fit n xs u v ≡ table_fit n xs v u
fit-both n xs u v =
    let low : min u v ≡ min v u = omega arith in
    let high : max u v ≡ max v u = omega arith in
    rw (low, high)

below_none : (n : ℕ) (xs : List ℕ) (u v : ℕ) → table_fit n xs u v ≡ true → entry xs u v < 65535
below_none n xs u v fit =
    let inside = (and_parts (nat_lt (min u v) (max u v)) (nat_lt (max u v) n && nat_lt (entry xs u v) 65535) fit).1 in
    ltb-true (entry xs u v) 65535 (and_parts (nat_lt (max u v) n) (nat_lt (entry xs u v) 65535) inside).1

pub table-laws : (n : ℕ) (xs : List ℕ) → 1 ≤ n → n ≤ 256 → Lawful (table n xs)
table-laws n xs some most = record {
  least = some;
  most = most;
  fit-both = fit-both n xs;
  points-both = λ u v. λ i. cond (fit-both n xs u v i) (entry-both xs u v i) 0;
  not_itself = λ u. and_left (nat_lt (min u u) (max u u)) (nat_lt (max u u) n && nat_lt (entry xs u u) 65535) (le-ltb (min u u) (max u u) (omega arith));
  no-points = λ u v apart. cond-false (table_fit n xs u v) (entry xs u v) 0 apart;
  outside = λ u v past. and_right (nat_lt (min u v) (max u v)) (nat_lt (max u v) n && nat_lt (entry xs u v) 65535) (and_left (nat_lt (max u v) n) (nat_lt (entry xs u v) 65535) (le-ltb (max u v) n (omega arith)));
  highest = λ u v. cond_both (table_fit n xs u v) (entry xs u v) 0 (λ p. p ≤ 65534) (λ fit. omega (arith, below_none n xs u v fit)) (λ _. omega arith);
}
