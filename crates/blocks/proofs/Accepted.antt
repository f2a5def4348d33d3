-- What an accepted list keeps: every question was answered yes.
use Rattle.std.proofs.Common.{◌≡◌, ℕ, zero, suc, ◌-◌, ◌/◌, ◌%◌, ◌<◌, ◌≤◌, Bool, true, cond, ◌&&◌, eqb, leb, List, ◌++◌, length, get_or, Ok, Err, Result, refl, ap, ◌∙◌, arith}
use Rattle.std.specs.List.{flat_map}
use Rattle.std.proofs.lemmas.Bool.{and_parts, cond-true, eq-eqb, eqb-true, leb-true}
use Rattle.std.proofs.lemmas.Bool.Decides.{nat_tests}
use Rattle.candidates.specs.Sets.{counting}
use Rattle.sheets.specs.Refusals.{first_no}
use Rattle.blocks.specs.declared.faults.ListFault.{ListFault}
use Rattle.blocks.specs.declared.faults.BlockFault.TheVariants.{Check, Place, Count, Unused}
use Rattle.blocks.specs.declared.faults.ListFault.TheVariants.{Length, Size, Block}
use Rattle.blocks.specs.Bytes.{number, part, all_zero}
use Rattle.blocks.specs.Format.{block, block_count, check, record_at, record_count, size_of}
use Rattle.blocks.specs.Questions.{Asked, count_right, unused, block_questions, record_questions, list_questions, judged}
use Rattle.blocks.proofs.Asked.{first_no-append-ok, first_no-first, first_no-rest, first_no-each, first_no-joined}

-- if nothing is refused, the first answer is yes, and nothing that follows is refused
yes-first : {F : Type 0} (b : Bool) (e : F) (r : Result (Unit {0}) F) → cond b r (Err e) ≡ Ok tt → (b ≡ true) × (r ≡ Ok tt)
yes-first b e r ok = (grind (arith, nat_tests), grind (arith, nat_tests))

pub record Accepted (bytes : List ℕ) : Type 0 where
  pub least : 512 ≤ length bytes
  pub most : length bytes ≤ 133120
  pub whole : length bytes % 512 ≡ 0
  pub blocks : (p : ℕ) → p < block_count bytes → first_no (block_questions bytes p) ≡ Ok tt
  pub records : (j : ℕ) → j < record_count bytes → first_no (record_questions bytes j) ≡ Ok tt

module _ (bytes : List ℕ) where
  abbrev of_blocks : Asked ListFault
  of_blocks = flat_map (block_questions bytes) (counting 0 (block_count bytes))

  abbrev of_records : Asked ListFault
  of_records = flat_map (record_questions bytes) (counting 0 (record_count bytes))

  pub accepted-from-judged : judged bytes ≡ Ok tt → Accepted bytes
  unfolding judged list_questions
  accepted-from-judged ok =
      let both = yes-first (leb 512 (length bytes) && (leb (length bytes) 133120 && eqb (length bytes % 512) 0)) Length (first_no (of_blocks ++ of_records)) ok in
      let first = and_parts (leb 512 (length bytes)) (leb (length bytes) 133120 && eqb (length bytes % 512) 0) both.0 in
      let second = and_parts (leb (length bytes) 133120) (eqb (length bytes % 512) 0) first.1 in
      record {
        least = leb-true 512 (length bytes) first.0;
        most = leb-true (length bytes) 133120 second.0;
        whole = eqb-true (length bytes % 512) 0 second.1;
        blocks = λ p less. first_no-each (block_questions bytes) 0 (block_count bytes) (first_no-first of_blocks of_records both.1) p (omega arith) (omega arith);
        records = λ j less. first_no-each (record_questions bytes) 0 (record_count bytes) (first_no-rest of_blocks of_records both.1) j (omega arith) (omega arith);
      }

  pub judged-from-accepted : Accepted bytes → judged bytes ≡ Ok tt
  unfolding judged list_questions
  judged-from-accepted a =
      let inside : first_no (of_blocks ++ of_records) ≡ Ok tt =
      first_no-append-ok of_blocks of_records (first_no-joined (block_questions bytes) 0 (block_count bytes) (λ p _ less. a.blocks p (omega arith))) ∙ first_no-joined (record_questions bytes) 0 (record_count bytes) (λ j _ less. a.records j (omega arith)) in
      let least = a.least in
      let most = a.most in
      let whole = a.whole in
      grind (arith, nat_tests)

  -- what the questions say of one record
  pub record RecordRight (j : ℕ) : Type 0 where
    pub below : (record_at bytes j).key % 256 < (record_at bytes j).key / 256
    pub within : (record_at bytes j).key / 256 < size_of bytes
    pub after : (i : ℕ) → j ≡ suc i → (record_at bytes i).key < (record_at bytes j).key
    pub fair : (record_at bytes j).points < 65535

  pub record-right : (j : ℕ) → first_no (record_questions bytes j) ≡ Ok tt → RecordRight j
  unfolding record_questions
  record-right j ok = record {
    below = grind (arith, nat_tests);
    within = grind (arith, nat_tests);
    after = λ i next. let last : j - 1 ≡ i = omega arith in let same = ap (λ k. (record_at bytes k).key) last in grind (arith, nat_tests);
    fair = grind (arith, nat_tests);
  }

  pub right-record : (j : ℕ) → RecordRight j → first_no (record_questions bytes j) ≡ Ok tt
  unfolding record_questions
  right-record zero r =
      let below = r.below in
      let within = r.within in
      let fair = r.fair in
      grind (arith, nat_tests)
  right-record (suc i) r =
      let below = r.below in
      let within = r.within in
      let fair = r.fair in
      let after = r.after i refl in
      let last : suc i - 1 ≡ i = omega arith in
      let same = ap (λ k. (record_at bytes k).key) last in
      grind (arith, nat_tests)

  -- what the questions say of one block
  pub record BlockRight (p : ℕ) : Type 0 where
    pub checks : number (part 4 508 (block bytes p)) ≡ check (block bytes p)
    pub places : number (part 2 0 (block bytes p)) ≡ p
    pub sizes : get_or (block bytes p) 3 0 ≡ get_or bytes 3 0
    pub counts : count_right (block_count bytes) p (get_or (block bytes p) 2 0) ≡ true
    pub zeros : all_zero (unused (block bytes p)) ≡ true

  pub block-right : (p : ℕ) → first_no (block_questions bytes p) ≡ Ok tt → BlockRight p
  unfolding block_questions
  block-right p ok =
      let bs : List ℕ = block bytes p in
      let first = yes-first (eqb (number (part 4 508 bs)) (check bs)) (Block (Check p)) _ ok in
      let second = yes-first (eqb (number (part 2 0 bs)) p) (Block (Place p)) _ first.1 in
      let third = yes-first (eqb (get_or bs 3 0) (get_or bytes 3 0)) (Size p) _ second.1 in
      let fourth = yes-first (count_right (block_count bytes) p (get_or bs 2 0)) (Block (Count p)) _ third.1 in
      let fifth = yes-first (all_zero (unused bs)) (Block (Unused p)) _ fourth.1 in
      record {
        checks = eqb-true (number (part 4 508 bs)) (check bs) first.0;
        places = eqb-true (number (part 2 0 bs)) p second.0;
        sizes = eqb-true (get_or bs 3 0) (get_or bytes 3 0) third.0;
        counts = fourth.0;
        zeros = fifth.0;
      }

  pub right-block : (p : ℕ) → BlockRight p → first_no (block_questions bytes p) ≡ Ok tt
  unfolding block_questions
  right-block p r =
      let bs : List ℕ = block bytes p in
      let none : Result (Unit {0}) ListFault = Ok tt in
      cond-true (eqb (number (part 4 508 bs)) (check bs)) _ (Err (Block (Check p))) (eq-eqb (number (part 4 508 bs)) (check bs) r.checks) ∙ (cond-true (eqb (number (part 2 0 bs)) p) _ (Err (Block (Place p))) (eq-eqb (number (part 2 0 bs)) p r.places) ∙ (cond-true (eqb (get_or bs 3 0) (get_or bytes 3 0)) _ (Err (Size p)) (eq-eqb (get_or bs 3 0) (get_or bytes 3 0) r.sizes) ∙ (cond-true (count_right (block_count bytes) p (get_or bs 2 0)) _ (Err (Block (Count p))) r.counts ∙ cond-true (all_zero (unused bs)) none (Err (Block (Unused p))) r.zeros)))
