-- What is found among the records of a sheet, and the sheet that is found again.
use Rattle.std.proofs.Common.{◌≡◌, ℕ, zero, suc, ◌+◌, ◌-◌, ◌*◌, ◌/◌, ◌%◌, ◌<◌, ◌≤◌, min, max, Bool, true, false, cond, ◌&&◌, eqb, ltb, List, ◌∷◌, map, is_some, Some, None, filter, Option, sym, refl, ap, ◌∙◌, ap₂, ⊎_elim, arith}
use Rattle.std.proofs.ByRecursion.{All-map, All-weaker, kept_by_passes}
use Rattle.std.proofs.lemmas.Bool.{and_cases, and_from, and_parts, both_ways, cases_Bool, cases_eq, cases_lt, cond_both, cond-false, cond-true, eq-eqb, lt-ltb, ltb-false, ltb-true, ne_eqb}
use Rattle.candidates.specs.Sets.{counting}
use Rattle.sheets.specs.Meaning.{Meaning, Lawful}
use Rattle.blocks.specs.Format.{Record, fair, has_record, known, look, or_zero, record_of, records, records_from, sheet_by}
use Rattle.list_reader.specs.Laws.{sheet_by-lawful}
use Rattle.list_writer.proofs.Ordered.{Ordered, Right, Rise, look-right, same-from-look}

module _ (m : Meaning) where
  abbrev kept : ℕ → ℕ → List Record
  kept a n = map (record_of m) (filter (has_record m) (counting a n))

  look-kept : (key a n : ℕ) → a ≤ key → key < a + n → has_record m key ≡ true → look key (kept a n) ≡ Some (record_of m key).points
  unfolding look record_of
  look-kept key a zero low high has = absurd (omega arith)
  look-kept key a (suc n) low high has =
      ⊎_elim
      (λ (here : a ≡ key).
      let rest : List ℕ = filter (has_record m) (counting (suc a) n) in
      ap (λ ks. look key (map (record_of m) ks)) (cond-true (has_record m a) (a ∷ rest) rest (ap (has_record m) here ∙ has)) ∙ (cond-true (eqb a key) (Some (record_of m a).points) (look key (map (record_of m) rest)) (eq-eqb a key here) ∙ ap (λ k. Some (record_of m k).points) here))
      (λ (apart : a ≡ key → ⊥).
      let rest : List ℕ = filter (has_record m) (counting (suc a) n) in
      let later = look-kept key (suc a) n (omega arith) (omega arith) has in
      cond_both (has_record m a) (a ∷ rest) rest (λ ks. look key (map (record_of m) ks) ≡ Some (record_of m key).points) (λ _. cond-false (eqb a key) (Some (record_of m a).points) (look key (map (record_of m) rest)) (ne_eqb a key apart) ∙ later) (λ _. later))
      (cases_eq a key)

  look-lacking : (key a n : ℕ) → has_record m key ≡ false → look key (kept a n) ≡ None
  unfolding look record_of
  look-lacking key a zero lacks = refl
  look-lacking key a (suc n) lacks =
      cond_both (has_record m a) (a ∷ filter (has_record m) (counting (suc a) n)) (filter (has_record m) (counting (suc a) n)) (λ ks. look key (map (record_of m) ks) ≡ None)
      (λ has. cond-false (eqb a key) (Some (record_of m a).points) (look key (kept (suc a) n)) (ne_eqb a key (λ same. both_ways (has_record m a) (ap (has_record m) same ∙ lacks) has)) ∙ look-lacking key (suc a) n lacks)
      (λ _. look-lacking key (suc a) n lacks)

  rise-kept : (low a n : ℕ) → low ≤ a → Rise low (kept a n)
  unfolding record_of
  rise-kept low a zero from = tt
  rise-kept low a (suc n) from =
      let rest : List ℕ = filter (has_record m) (counting (suc a) n) in
      cond_both (has_record m a) (a ∷ rest) rest (λ ks. Rise low (map (record_of m) ks)) (λ _. (from, rise-kept (suc a) (suc a) n (omega arith))) (λ _. rise-kept low (suc a) n (omega arith))

-- a lawful sheet and its records
module _ (m : Meaning) (lawful : Lawful m) where
  fit-inside : (u v : ℕ) → m.fit u v ≡ true → v < m.size
  fit-inside u v fits =
      ⊎_elim
      (λ (inside : v < m.size). inside)
      (λ (past : m.size ≤ v). absurd (both_ways (m.fit u v) (lawful.fit-both u v ∙ lawful.outside v u past) fits))
      (cases_lt v m.size)

  record-right : (key : ℕ) → has_record m key ≡ true → Right m.size (record_of m key)
  unfolding has_record record_of
  record-right key has =
      let both = and_parts (ltb (key % 256) (key / 256)) (m.fit (key % 256) (key / 256)) has in
      record {
        below = ltb-true (key % 256) (key / 256) both.0;
        within = fit-inside (key % 256) (key / 256) both.1;
        fair = omega (arith, lawful.highest (key % 256) (key / 256));
      }

  pub records-ordered : Ordered m.size (records m)
  unfolding records_from
  records-ordered =
      let keys : List ℕ = filter (has_record m) (counting 0 (256 * m.size - 0)) in
      record {
        rise = rise-kept m 0 0 (256 * m.size - 0) (omega arith);
        right = All-map (Right m.size) (record_of m) keys (All-weaker (λ key. has_record m key ≡ true) (λ key. Right m.size (record_of m key)) record-right keys (kept_by_passes (has_record m) (counting 0 (256 * m.size - 0))));
      }

  look-records : (key : ℕ) → look key (records m) ≡ cond (has_record m key) (Some (record_of m key).points) None
  unfolding records_from record_of
  look-records key =
      ⊎_elim
      (λ (has : has_record m key ≡ true). look-kept m key 0 (256 * m.size - 0) (omega arith) (omega (arith, (record-right key has).within)) has ∙ sym (cond-true (has_record m key) (Some (record_of m key).points) None has))
      (λ (lacks : has_record m key ≡ false). look-lacking m key 0 (256 * m.size - 0) lacks ∙ sym (cond-false (has_record m key) (Some (record_of m key).points) None lacks))
      (cases_Bool (has_record m key))

  abbrev found : ℕ → Option ℕ
  found key = look key (records m)

  -- at the key of u < v below 256
  found-pair : (u v : ℕ) → u < v → v < m.size → found (u + 256 * v) ≡ cond (m.fit u v) (Some (m.points u v)) None
  unfolding has_record record_of
  found-pair u v less inside =
      let most = lawful.most in
      let first : (u + 256 * v) % 256 ≡ u = omega arith in
      let second : (u + 256 * v) / 256 ≡ v = omega arith in
      look-records (u + 256 * v) ∙ (ap₂ (λ a b. cond (ltb a b && m.fit a b) (Some (m.points a b)) None) first second ∙ ap (λ t. cond (t && m.fit u v) (Some (m.points u v)) None) (lt-ltb u v less))

  fair-same : (b : Bool) (p : ℕ) → p ≤ 65534 → fair (cond b (Some p) None) ≡ cond b (Some p) None
  fair-same true p small = cond-true (ltb p 65535) (Some p) None (lt-ltb p 65535 (omega arith))
  fair-same false p small = refl

  sorted-same : {X : Type 0} (f : ℕ → ℕ → X) → ((a b : ℕ) → f a b ≡ f b a) → (u v : ℕ) → f (min u v) (max u v) ≡ f u v
  sorted-same f both u v =
      ⊎_elim
      (λ (less : u < v). let low : min u v ≡ u = omega arith in let high : max u v ≡ v = omega arith in ap₂ f low high)
      (λ (more : v ≤ u). let low : min u v ≡ v = omega arith in let high : max u v ≡ u = omega arith in ap₂ f low high ∙ both v u)
      (cases_lt u v)

  -- two of which no pair of the sheet is made do not fit
  apart-from-guard : (u v : ℕ) → (ltb (min u v) (max u v) && ltb (max u v) m.size) ≡ false → m.fit u v ≡ false
  apart-from-guard u v guard =
      ⊎_elim
      (λ (level : ltb (min u v) (max u v) ≡ false).
      let same : v ≡ u = omega (arith, ltb-false (min u v) (max u v) level) in
      ap (m.fit u) same ∙ lawful.not_itself u)
      (λ (past : ltb (max u v) m.size ≡ false).
      ⊎_elim
      (λ (less : u < v). lawful.fit-both u v ∙ lawful.outside v u (omega (arith, ltb-false (max u v) m.size past)))
      (λ (more : v ≤ u). lawful.outside u v (omega (arith, ltb-false (max u v) m.size past)))
      (cases_lt u v))
      (and_cases (ltb (min u v) (max u v)) (ltb (max u v) m.size) guard)

  known-found : (u v : ℕ) → known m.size found u v ≡ cond (m.fit u v) (Some (m.points u v)) None
  unfolding known
  known-found u v =
      cond_both (ltb (min u v) (max u v) && ltb (max u v) m.size) (fair (found (min u v + 256 * max u v))) None (λ o. o ≡ cond (m.fit u v) (Some (m.points u v)) None)
      (λ guard.
      let both = and_parts (ltb (min u v) (max u v)) (ltb (max u v) m.size) guard in
      let less = ltb-true (min u v) (max u v) both.0 in
      let inside = ltb-true (max u v) m.size both.1 in
      ap fair (found-pair (min u v) (max u v) less inside) ∙ (fair-same (m.fit (min u v) (max u v)) (m.points (min u v) (max u v)) (lawful.highest (min u v) (max u v)) ∙ ap₂ (λ b p. cond b (Some p) None) (sorted-same m.fit lawful.fit-both u v) (sorted-same m.points lawful.points-both u v)))
      (λ guard. sym (cond-false (m.fit u v) (Some (m.points u v)) None (apart-from-guard u v guard)))

  some_same : (b : Bool) (p : ℕ) → is_some (cond b (Some p) None) ≡ b
  some_same true p = refl
  some_same false p = refl

  points-same : (u v : ℕ) → or_zero (cond (m.fit u v) (Some (m.points u v)) None) ≡ m.points u v
  points-same u v =
      cond_both (m.fit u v) (Some (m.points u v)) None (λ o. or_zero o ≡ m.points u v) (λ _. refl) (λ apart. sym (lawful.no-points u v apart))

  pub sheet-found : sheet_by m.size found ≡ m
  sheet-found = λ i. record {
    size = m.size;
    fit = λ u v. (ap is_some (known-found u v) ∙ some_same (m.fit u v) (m.points u v)) i;
    points = λ u v. (ap or_zero (known-found u v) ∙ points-same u v) i;
  }

-- records in order, and the sheet that they make
module _ (n : ℕ) (rs : List Record) (ordered : Ordered n rs) (some : 1 ≤ n) (most : n ≤ 256) where
  abbrev sheet : Meaning
  sheet = sheet_by n (λ key. look key rs)

  abbrev pair_known : ℕ → Option ℕ
  pair_known key = known n (λ k. look k rs) (key % 256) (key / 256)

  known-key : (key : ℕ) → key % 256 < key / 256 → pair_known key ≡ cond (ltb (key / 256) n) (fair (look key rs)) None
  unfolding known
  known-key key less =
      let u : ℕ = key % 256 in
      let v : ℕ = key / 256 in
      let low : min u v ≡ u = omega arith in
      let high : max u v ≡ v = omega arith in
      let whole : u + 256 * v ≡ key = omega arith in
      ap₂ (λ a b. cond (ltb a b && ltb b n) (fair (look (a + 256 * b) rs)) None) low high ∙ ap₂ (λ t k. cond (t && ltb v n) (fair (look k rs)) None) (lt-ltb u v less) whole

  either-none : (b : Bool) → cond {A = Option ℕ} b None None ≡ None
  either-none true = refl
  either-none false = refl

  look-again : (key : ℕ) (o : Option ℕ) → look key rs ≡ o → cond (has_record sheet key) (Some (record_of sheet key).points) None ≡ o
  unfolding has_record record_of
  look-again key None is =
      cond_both (has_record sheet key) (Some (or_zero (pair_known key))) None (λ o. o ≡ None)
      (λ has.
      let both = and_parts (ltb (key % 256) (key / 256)) (is_some (pair_known key)) has in
      let less = ltb-true (key % 256) (key / 256) both.0 in
      let none : pair_known key ≡ None = known-key key less ∙ (ap (λ o. cond (ltb (key / 256) n) (fair o) None) is ∙ either-none (ltb (key / 256) n)) in
      absurd (both_ways (is_some (pair_known key)) (ap is_some none) both.1))
      (λ _. refl)
  look-again key (Some p) is =
      let right = look-right n key p rs ordered.right is in
      let one : pair_known key ≡ Some p =
      known-key key right.below ∙ (ap (λ o. cond (ltb (key / 256) n) (fair o) None) is ∙ (cond-true (ltb (key / 256) n) (fair (Some p)) None (lt-ltb (key / 256) n right.within) ∙ cond-true (ltb p 65535) (Some p) None (lt-ltb p 65535 right.fair))) in
      let has : has_record sheet key ≡ true = and_from (ltb (key % 256) (key / 256)) (is_some (pair_known key)) (lt-ltb (key % 256) (key / 256) right.below) (ap is_some one) in
      cond-true (has_record sheet key) (Some (or_zero (pair_known key))) None has ∙ ap (λ o. Some (or_zero o)) one

  pub records-again : records sheet ≡ rs
  records-again =
      same-from-look 0 (records sheet) rs (records-ordered sheet (sheet_by-lawful n (λ key. look key rs) some most)).rise ordered.rise (λ key. look-records sheet (sheet_by-lawful n (λ key. look key rs) some most) key ∙ look-again key (look key rs) refl)
