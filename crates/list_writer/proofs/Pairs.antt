-- A sheet has at most 32,640 pairs, so that its list is never too long.
use Rattle.std.proofs.Common.{◌≡◌, ℕ, ◌+◌, ◌-◌, ◌*◌, ◌/◌, ◌%◌, ◌≤◌, Bool, true, ltb, List, length, filter, sym, refl, ap, ◌∙◌, arith}
use Rattle.std.proofs.lemmas.List.Elements.{filter-append}
use Rattle.std.proofs.lemmas.List.{length-append, length-map}
use Rattle.std.proofs.lemmas.Bool.{and_parts}
use Rattle.candidates.specs.Sets.{counting, is_in}
use Rattle.candidates.proofs.Sets.{counting-append, is_in-kept-by, kept-by-sub, length-sub, sub-kept-by}
use Rattle.sheets.specs.Meaning.{Meaning}
use Rattle.blocks.specs.Format.{has_record, record_of, records, records_from}

-- the key of two candidates, the first below the second
is_pair : ℕ → Bool
is_pair key = ltb (key % 256) (key / 256)

pairs_below : ℕ → ℕ
pairs_below n = length (filter is_pair (counting 0 n))

all-pairs : pairs_below 65536 ≡ 32640
unfolding pairs_below is_pair
all-pairs = refl

pairs_below-le : (a b : ℕ) → a ≤ b → pairs_below a ≤ pairs_below b
unfolding pairs_below
pairs_below-le a b less =
    let whole : a + (b - a) ≡ b = omega arith in
    let parts = ap (λ ks. length (filter is_pair ks)) (ap (counting 0) (sym whole) ∙ counting-append 0 a (b - a)) in
    let split = ap length (filter-append is_pair (counting 0 a) (counting (0 + a) (b - a))) in
    omega (arith, parts, split, length-append (filter is_pair (counting 0 a)) (filter is_pair (counting (0 + a) (b - a))))

-- a stricter test keeps fewer
length-kept-le : (p q : ℕ → Bool) → ((k : ℕ) → p k ≡ true → q k ≡ true) → (ks : List ℕ) → length (filter p ks) ≤ length (filter q ks)
length-kept-le p q stricter ks =
    length-sub (kept-by-sub q (sub-kept-by p ks) (λ k inside. stricter k (and_parts (p k) (is_in k ks) (sym (is_in-kept-by p k ks) ∙ inside)).0))

pub records-few : (m : Meaning) → m.size ≤ 256 → length (records m) ≤ 32640
unfolding records_from pairs_below is_pair has_record
records-few m most =
    let n : ℕ = 256 * m.size - 0 in
    omega (arith, length-map (filter (has_record m) (counting 0 n)) (record_of m), length-kept-le (has_record m) is_pair (λ k has. (and_parts (ltb (k % 256) (k / 256)) (m.fit (k % 256) (k / 256)) has).0) (counting 0 n), pairs_below-le n 65536 (omega arith), all-pairs)
