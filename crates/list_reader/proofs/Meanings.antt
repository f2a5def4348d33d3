-- The sheet that answers from accepted bytes is the one that they hold.
use Rattle.std.proofs.Common.{◌≡◌, ℕ, zero, suc, ◌+◌, ◌-◌, ◌<◌, ◌≤◌, ◌==◌, ltb, List, map, Some, None, refl, sym, ◌∙◌, arith}
use Rattle.std.proofs.lemmas.Bool.{cond-true, cond_both, lt-ltb}
use Rattle.candidates.specs.Sets.{counting}
use Rattle.blocks.specs.Format.{Record, fair, look, record_at, record_count, records_of}
use Rattle.blocks.proofs.Accepted.{Accepted, record-right}
use Rattle.list_reader.specs.Halving.{found}
use Rattle.list_reader.proofs.Halving.{halving-look}

-- what rises from each to the next rises from each to all that follow
rising-steps : (f : ℕ → ℕ) (n : ℕ) → ((i : ℕ) → suc i < n → f i < f (suc i)) → (i d : ℕ) → suc (i + d) < n → f i < f (suc (i + d))
rising-steps f n step i zero inside = let same : i + 0 ≡ i = omega arith in rw same (step i (omega arith))
rising-steps f n step i (suc d) inside =
    let next : i + suc d ≡ suc (i + d) = omega arith in
    rw next (omega (arith, rising-steps f n step i d (omega arith), step (suc (i + d)) (omega arith)))

-- records with points below 65,535 are all looked up
look-fair : (at : ℕ → Record) (key a n : ℕ) → ((j : ℕ) → a ≤ j → j < a + n → (at j).points < 65535) → fair (look key (map at (counting a n))) ≡ look key (map at (counting a n))
unfolding look
look-fair at key a zero right = refl
look-fair at key a (suc n) right =
    cond_both ((at a).key == key) (Some (at a).points) (look key (map at (counting (suc a) n))) (λ o. fair o ≡ o) (λ _. cond-true (ltb (at a).points 65535) (Some (at a).points) None (lt-ltb (at a).points 65535 (right a (omega arith) (omega arith)))) (λ _. look-fair at key (suc a) n (λ j low high. right j (omega arith) (omega arith)))

module _ (bytes : List ℕ) (accepted : Accepted bytes) where
  pub keys-rise : (i j : ℕ) → i < j → j < record_count bytes → (record_at bytes i).key < (record_at bytes j).key
  keys-rise i j less inside =
      let gap : suc (i + (j - suc i)) ≡ j = omega arith in
      rw gap at (rising-steps (λ k. (record_at bytes k).key) (record_count bytes) (λ k within. (record-right bytes (suc k) (accepted.records (suc k) within)).after k refl) i (j - suc i) (omega arith))

  found-look : (key : ℕ) → found bytes key ≡ look key (records_of bytes)
  unfolding found records_of
  found-look key =
      let whole : record_count bytes - 0 ≡ record_count bytes = omega arith in
      rw whole at (halving-look (record_at bytes) key (record_count bytes) keys-rise (record_count bytes) 0 (record_count bytes) (omega arith) (omega arith))

  points-fair : (key : ℕ) → fair (look key (records_of bytes)) ≡ look key (records_of bytes)
  unfolding records_of
  points-fair key = look-fair (record_at bytes) key 0 (record_count bytes) (λ j _ less. (record-right bytes j (accepted.records j (omega (arith, less)))).fair)

  -- what is found is what two have that fit
  pub found-fair : (key : ℕ) → fair (look key (records_of bytes)) ≡ found bytes key
  found-fair key = points-fair key ∙ sym (found-look key)
