-- Halving finds what looking at each record finds, where keys rise.
use Rattle.std.proofs.Common.{◌≡◌, ℕ, zero, suc, ◌+◌, ◌-◌, ◌/◌, ◌<◌, ◌≤◌, cond, eqb, ltb, List, [], ◌∷◌, ◌++◌, map, Some, None, Option, sym, refl, ap, ◌∙◌, ap₂, ⊎_elim, arith}
use Rattle.std.proofs.lemmas.List.{map-append}
use Rattle.std.proofs.lemmas.Bool.{cond-true, cond-false, cases_eq, cases_lt, cases_order, eq-eqb, ne_eqb, le-ltb, lt-ltb}
use Rattle.candidates.specs.Sets.{counting}
use Rattle.candidates.proofs.Sets.{counting-append}
use Rattle.blocks.specs.Format.{Record, look}
use Rattle.blocks.proofs.Sums.{counting_more}
use Rattle.list_reader.specs.Halving.{halving, told}

-- the place in the middle
abbrev pub middle_of : ℕ → ℕ → ℕ
middle_of low high = low + (high - low) / 2

module _ (r : Record) (key : ℕ) (below above : Option ℕ) where
  told_here : r.key ≡ key → told r key below above ≡ Some r.points
  told_here same = cond-true (eqb r.key key) (Some r.points) _ (eq-eqb r.key key same)

  told-above : r.key < key → told r key below above ≡ above
  told-above less =
      cond-false (eqb r.key key) (Some r.points) _ (ne_eqb r.key key (λ same. omega arith)) ∙ cond-true (ltb r.key key) above below (lt-ltb r.key key less)

  told_below : key < r.key → told r key below above ≡ below
  told_below more =
      cond-false (eqb r.key key) (Some r.points) _ (ne_eqb r.key key (λ same. omega arith)) ∙ cond-false (ltb r.key key) above below (le-ltb r.key key (omega arith))

module _ (at : ℕ → Record) (key : ℕ) where
  pub halving-none : (turns low high : ℕ) → high ≤ low → halving at key turns low high ≡ None
  unfolding halving
  halving-none zero low high past = refl
  halving-none (suc turns) low high past = cond-false (ltb low high) _ None (le-ltb low high past)

  halving-some : (turns low high : ℕ) → low < high → halving at key (suc turns) low high ≡ told (at (middle_of low high)) key (halving at key turns low (middle_of low high)) (halving at key turns (middle_of low high + 1) high)
  unfolding halving
  halving-some turns low high less = cond-true (ltb low high) _ None (lt-ltb low high less)

  -- more turns than are needed change nothing
  halving-turns : (f g low high : ℕ) → high - low ≤ f → high - low ≤ g → halving at key f low high ≡ halving at key g low high
  halving-turns zero g low high enough also =
      halving-none zero low high (omega arith) ∙ sym (halving-none g low high (omega arith))
  halving-turns (suc f) zero low high enough also =
      halving-none (suc f) low high (omega arith) ∙ sym (halving-none zero low high (omega arith))
  halving-turns (suc f) (suc g) low high enough also =
      ⊎_elim
      (λ (less : low < high).
      let below = halving-turns f g low (middle_of low high) (omega arith) (omega arith) in
      let above = halving-turns f g (middle_of low high + 1) high (omega arith) (omega arith) in
      halving-some f low high less ∙ (ap₂ (told (at (middle_of low high)) key) below above ∙ sym (halving-some g low high less)))
      (λ (past : high ≤ low). halving-none (suc f) low high past ∙ sym (halving-none (suc g) low high past))
      (cases_lt low high)

  -- a turn with just enough turns left
  halving-more : (low high : ℕ) → low < high → halving at key (high - low) low high ≡ told (at (middle_of low high)) key (halving at key (middle_of low high - low) low (middle_of low high)) (halving at key (high - (middle_of low high + 1)) (middle_of low high + 1) high)
  halving-more low high less =
      let turns : ℕ = high - low - 1 in
      let below = halving-turns turns (middle_of low high - low) low (middle_of low high) (omega arith) (omega arith) in
      let above = halving-turns turns (high - (middle_of low high + 1)) (middle_of low high + 1) high (omega arith) (omega arith) in
      halving-turns (high - low) (suc turns) low high (omega arith) (omega arith) ∙ (halving-some turns low high less ∙ ap₂ (told (at (middle_of low high)) key) below above)

  module _ (low high : ℕ) (less : low < high) where
    pub halving-here : (at (middle_of low high)).key ≡ key → halving at key (high - low) low high ≡ Some (at (middle_of low high)).points
    halving-here same = halving-more low high less ∙ told_here (at (middle_of low high)) key _ _ same

    pub halving-above : (at (middle_of low high)).key < key → halving at key (high - low) low high ≡ halving at key (high - (middle_of low high + 1)) (middle_of low high + 1) high
    halving-above before = halving-more low high less ∙ told-above (at (middle_of low high)) key _ _ before

    pub halving-below : key < (at (middle_of low high)).key → halving at key (high - low) low high ≡ halving at key (middle_of low high - low) low (middle_of low high)
    halving-below after = halving-more low high less ∙ told_below (at (middle_of low high)) key _ _ after

  -- the records from low up to high
  abbrev segment : ℕ → ℕ → List Record
  segment low high = map at (counting low (high - low))

  segment-append : (low middle high : ℕ) → low ≤ middle → middle ≤ high → segment low high ≡ segment low middle ++ segment middle high
  segment-append low middle high first second =
      let whole : high - low ≡ (middle - low) + (high - middle) = omega arith in
      let begin : low + (middle - low) ≡ middle = omega arith in
      ap (λ n. map at (counting low n)) whole ∙ (ap (map at) (counting-append low (middle - low) (high - middle)) ∙ (map-append at (counting low (middle - low)) (counting (low + (middle - low)) (high - middle)) ∙ ap (λ a. segment low middle ++ map at (counting a (high - middle))) begin))

  look_skip : (a n : ℕ) (rest : List Record) → ((j : ℕ) → a ≤ j → j < a + n → (at j).key ≡ key → ⊥) → look key (map at (counting a n) ++ rest) ≡ look key rest
  unfolding look
  look_skip a zero rest none = refl
  look_skip a (suc n) rest none =
      cond-false (eqb (at a).key key) (Some (at a).points) _ (ne_eqb (at a).key key (none a (omega arith) (omega arith))) ∙ look_skip (suc a) n rest (λ j low high. none j (omega arith) (omega arith))

  look-keep : (rs : List Record) (a n : ℕ) → ((j : ℕ) → a ≤ j → j < a + n → (at j).key ≡ key → ⊥) → look key (rs ++ map at (counting a n)) ≡ look key rs
  unfolding look
  look-keep [] a zero none = refl
  look-keep [] a (suc n) none =
      cond-false (eqb (at a).key key) (Some (at a).points) _ (ne_eqb (at a).key key (none a (omega arith) (omega arith))) ∙ look-keep [] (suc a) n (λ j low high. none j (omega arith) (omega arith))
  look-keep (r ∷ rs) a n none = ap (λ o. cond (eqb r.key key) (Some r.points) o) (look-keep rs a n none)

  module _ (most : ℕ) (rising : (i j : ℕ) → i < j → j < most → (at i).key < (at j).key) where
    rising_le : (i j : ℕ) → i ≤ j → j < most → (at i).key ≤ (at j).key
    rising_le i j low top =
        ⊎_elim
        (λ (same : i ≡ j). rw same (omega arith))
        (λ (apart : i ≡ j → ⊥). omega (arith, rising i j (omega arith) top))
        (cases_eq i j)

    look-told : (low middle high : ℕ) → low ≤ middle → middle < high → high ≤ most → look key (segment low high) ≡ told (at middle) key (look key (segment low middle)) (look key (segment (middle + 1) high))
    unfolding look
    look-told low middle high first second top =
        ⊎_elim
        (λ (same : (at middle).key ≡ key).
        let none : (j : ℕ) → low ≤ j → j < low + (middle - low) → (at j).key ≡ key → ⊥ = λ j _ inside is. omega (arith, rising j middle (omega arith) (omega arith)) in
        ap (look key) (segment-append low middle high first (omega arith)) ∙ (look_skip low (middle - low) (segment middle high) none ∙ (ap (λ js. look key (map at js)) (counting_more middle high second) ∙ (cond-true (eqb (at middle).key key) (Some (at middle).points) _ (eq-eqb (at middle).key key same) ∙ sym (told_here (at middle) key _ _ same)))))
        (⊎_elim
        (λ (before : (at middle).key < key).
        let none : (j : ℕ) → low ≤ j → j < low + (middle + 1 - low) → (at j).key ≡ key → ⊥ = λ j _ inside is. omega (arith, rising_le j middle (omega arith) (omega arith)) in
        ap (look key) (segment-append low (middle + 1) high (omega arith) (omega arith)) ∙ (look_skip low (middle + 1 - low) (segment (middle + 1) high) none ∙ sym (told-above (at middle) key _ _ before)))
        (λ (after : key < (at middle).key).
        let none : (j : ℕ) → middle ≤ j → j < middle + (high - middle) → (at j).key ≡ key → ⊥ = λ j from inside is. omega (arith, rising_le middle j from (omega arith)) in
        ap (look key) (segment-append low middle high first (omega arith)) ∙ (look-keep (segment low middle) middle (high - middle) none ∙ sym (told_below (at middle) key _ _ after))))
        (cases_order (at middle).key key)

    pub halving-look : (turns low high : ℕ) → high - low ≤ turns → high ≤ most → halving at key turns low high ≡ look key (segment low high)
    unfolding look
    halving-look zero low high enough top =
        let none : high - low ≡ 0 = omega arith in halving-none zero low high (omega arith) ∙ rw none
    halving-look (suc turns) low high enough top =
        ⊎_elim
        (λ (less : low < high).
        let below = halving-look turns low (middle_of low high) (omega arith) (omega arith) in
        let above = halving-look turns (middle_of low high + 1) high (omega arith) (omega arith) in
        halving-some turns low high less ∙ (ap₂ (told (at (middle_of low high)) key) below above ∙ sym (look-told low (middle_of low high) high (omega arith) (omega arith) top)))
        (λ (past : high ≤ low).
        let none : high - low ≡ 0 = omega arith in halving-none (suc turns) low high past ∙ rw none)
        (cases_lt low high)
