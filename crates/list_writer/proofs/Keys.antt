-- The records of a sheet from a key on, one at a time.
use Rattle.std.proofs.Common.{◌≡◌, ℕ, zero, suc, ◌+◌, ◌-◌, ◌*◌, ◌<◌, ◌≤◌, true, false, [], ◌∷◌, Some, None, Option, MatchOption, refl, ap, ◌∙◌, ⊎_elim, arith, length, sym, filter}
use Rattle.std.specs.List.{range_with_len}
use Rattle.std.proofs.lemmas.Bool.{cases_lt}
use Rattle.std.proofs.lemmas.List.{length-map}
use Rattle.candidates.specs.Sets.{counting}
use Rattle.sheets.specs.Meaning.{Meaning}
use Rattle.blocks.specs.Format.{has_record, record_of, records, records_from}
use Rattle.blocks.proofs.Sums.{counting_more}

range-counting : (a n : ℕ) → range_with_len a n ≡ counting a n
range-counting a zero = refl
range-counting a (suc n) = let next : a + 1 ≡ suc a = omega arith in rw next (ap (λ ks. a ∷ ks) (range-counting (suc a) n))

module _ (m : Meaning) where
  records_from-yes : (key : ℕ) → key < 256 * m.size → has_record m key ≡ true → records_from m key ≡ record_of m key ∷ records_from m (key + 1)
  unfolding records_from
  records_from-yes key inside has = rw (counting_more key (256 * m.size) inside, has) refl

  records_from-no : (key : ℕ) → key < 256 * m.size → has_record m key ≡ false → records_from m key ≡ records_from m (key + 1)
  unfolding records_from
  records_from-no key inside lacks = rw (counting_more key (256 * m.size) inside, lacks) refl

  records_from-all : (key : ℕ) → 256 * m.size ≤ key → records_from m key ≡ []
  unfolding records_from
  records_from-all key past = let none : 256 * m.size - key ≡ 0 = omega arith in rw none

  -- keys that have no record are passed over
  records_from-past : (from n : ℕ) → from + n ≤ 256 * m.size → ((k : ℕ) → from ≤ k → k < from + n → has_record m k ≡ false) → records_from m from ≡ records_from m (from + n)
  records_from-past from zero inside lack = let here : from ≡ from + 0 = omega arith in ap (records_from m) here
  records_from-past from (suc n) inside lack =
      let next : from + 1 + n ≡ from + suc n = omega arith in
      records_from-no from (omega arith) (lack from (omega arith) (omega arith)) ∙ (records_from-past (from + 1) n (omega arith) (λ k low high. lack k (omega arith) (omega arith)) ∙ ap (records_from m) next)

  -- the first key that has a record, from a key on, among so many
  abbrev pub IsFirst : ℕ → ℕ → Option ℕ → Type 0
  IsFirst end from r = MatchOption r ((k : ℕ) → from ≤ k → k < end → has_record m k ≡ false) (λ i. (from ≤ i) × (i < end) × (has_record m i ≡ true) × ((k : ℕ) → from ≤ k → k < i → has_record m k ≡ false))

  pub records_from-first : (size from : ℕ) (r : Option ℕ) → size ≡ m.size → IsFirst (256 * size) from r → MatchOption r (records_from m from ≡ []) (λ key. records_from m from ≡ record_of m key ∷ records_from m (key + 1))
  records_from-first size from None all lack =
      ⊎_elim
      (λ (inside : from < 256 * m.size).
      let end : from + (256 * m.size - from) ≡ 256 * m.size = omega arith in
      records_from-past from (256 * m.size - from) (omega arith) (λ k low high. lack k low (omega arith)) ∙ (ap (records_from m) end ∙ records_from-all (256 * m.size) (omega arith)))
      (records_from-all from)
      (cases_lt from (256 * m.size))
  records_from-first size from (Some i) all first =
      let there : from + (i - from) ≡ i = omega (arith, first.0) in
      records_from-past from (i - from) (omega (arith, first.1)) (λ k low high. first.3 k low (omega arith)) ∙ (ap (records_from m) there ∙ records_from-yes i (omega (arith, first.1)) first.2)

  pub length-records : (size : ℕ) → size ≡ m.size → length (filter (has_record m) (range_with_len 0 (256 * size))) ≡ length (records m)
  unfolding records_from
  length-records size all =
      let whole : 256 * size ≡ 256 * m.size - 0 = omega arith in
      ap (λ ks. length (filter (has_record m) ks)) (range-counting 0 (256 * size) ∙ ap (counting 0) whole) ∙ sym (length-map (filter (has_record m) (counting 0 (256 * m.size - 0))) (record_of m))
