-- How long the parts of a list are.
use Rattle.std.proofs.Common.{◌≡◌, ℕ, zero, suc, ◌+◌, ◌-◌, ◌*◌, ◌≤◌, List, [], ◌∷◌, ◌++◌, length, drop, replicate, refl, ap, ap₂, mul-suc, arith}
use Rattle.std.specs.List.{flat_map}
use Rattle.std.proofs.lemmas.List.{length-append, length-replicate, length-take, get_or_append_left}
use Rattle.blocks.specs.Bytes.{low_first, part}
use Rattle.blocks.specs.Format.{Record, record_bytes, content, weighed, check, sealed, block_at}
use Rattle.blocks.proofs.Numbers.{length-low_first}

pub length-record_bytes : (r : Record) → length (record_bytes r) ≡ 4
unfolding record_bytes low_first
length-record_bytes r = refl

pub length-joined : {X : Type 0} (f : X → List ℕ) (w : ℕ) → ((x : X) → length (f x) ≡ w) → (xs : List X) → length (flat_map f xs) ≡ w * length xs
length-joined f w each [] = omega arith
length-joined f w each (x ∷ xs) =
    omega (arith, length-append (f x) (flat_map f xs), each x, length-joined f w each xs, mul-suc w (length xs))

pub length-content : (low place : ℕ) (rs : List Record) → length rs ≤ 126 → length (content low place rs) ≡ 508
unfolding content low_first
length-content low place rs few =
    omega (arith, length-append (flat_map record_bytes rs) (replicate (504 - 4 * length rs) 0), length-joined record_bytes 4 length-record_bytes rs, length-replicate (504 - 4 * length rs) (the_zero))
  where
    the_zero : ℕ
    the_zero = 0

pub length_part : {X : Type 0} (w p : ℕ) (xs : List X) → length (part w p xs) ≤ w
length_part w p xs = omega (arith, length-take w (drop p xs))

pub length-block_at : (low : ℕ) (rs : List Record) (p : ℕ) → length (block_at low rs p) ≡ 512
unfolding block_at sealed
length-block_at low rs p =
    let bytes : List ℕ = content low p (part 126 (126 * p) rs) in
    omega (arith, length-append bytes (low_first 4 (check bytes)), length-content low p (part 126 (126 * p) rs) (length_part 126 (126 * p) rs), length-low_first 4 (check bytes))

weighed-append : (bs more : List ℕ) (i n : ℕ) → i + n ≤ length bs → weighed (bs ++ more) i n ≡ weighed bs i n
unfolding weighed
weighed-append bs more i zero inside = refl
weighed-append bs more i (suc n) inside =
    ap₂ ◌+◌ (ap (λ b. (i + 1) * b) (get_or_append_left bs more 0 i (omega arith))) (weighed-append bs more (suc i) n (omega arith))

-- the check reads the first 508 bytes only
pub check-append : (bs more : List ℕ) → length bs ≡ 508 → check (bs ++ more) ≡ check bs
check-append bs more long = weighed-append bs more 0 508 (omega arith)
