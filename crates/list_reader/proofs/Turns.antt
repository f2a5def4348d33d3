-- The questions put to a list, one turn of a loop at a time.
use Rattle.std.proofs.Common.{◌≡◌, ℕ, ◌+◌, ◌-◌, ◌*◌, ◌%◌, ◌<◌, ◌≤◌, cond, eqb, leb, List, ◌∷◌, ◌++◌, length, get_or, take, drop, length-append, length-drop, Ok, Err, sym, ap, ◌∙◌, arith}
use Rattle.std.specs.List.{flat_map}
use Rattle.std.proofs.lemmas.List.{append_assoc, drop-drop, drop_at, take_at}
use Rattle.std.proofs.lemmas.Bool.{cond-true, le-leb}
use Rattle.std.proofs.lemmas.Bool.Decides.{nat_tests}
use Rattle.candidates.specs.Sets.{counting}
use Rattle.sheets.specs.Refusals.{first_no}
use Rattle.blocks.specs.declared.faults.BlockFault.{BlockFault}
use Rattle.blocks.specs.declared.faults.ListFault.{ListFault}
use Rattle.blocks.specs.declared.faults.ListFault.TheVariants.{Size, Block}
use Rattle.blocks.specs.declared.faults.ProgramFault.TheVariants.{Long}
use Rattle.blocks.specs.declared.faults.ProgramFault.TheVariants.{List as Listed}
use Rattle.blocks.specs.Format.{block, block_count, record_count}
use Rattle.blocks.specs.Questions.{Asked, above, seal_questions, fill_questions, block_questions, record_questions, list_questions, judged, program_judged}
use Rattle.blocks.proofs.Asked.{raised, first_no-above, first_no-append-ok, first_no-append-err, joined-counting-more}

module _ {F : Type 0} (q : ℕ → Asked F) (i n : ℕ) (less : i < n) (rest : Asked F) where
  turned : flat_map q (counting i (n - i)) ++ rest ≡ q i ++ (flat_map q (counting (i + 1) (n - (i + 1))) ++ rest)
  turned =
      ap (λ qs. qs ++ rest) (joined-counting-more q i n less) ∙ append_assoc (q i) (flat_map q (counting (i + 1) (n - (i + 1)))) rest

  pub turn-ok : first_no (q i) ≡ Ok tt → first_no (flat_map q (counting (i + 1) (n - (i + 1))) ++ rest) ≡ first_no (flat_map q (counting i (n - i)) ++ rest)
  turn-ok ok =
      sym (ap first_no turned ∙ first_no-append-ok (q i) (flat_map q (counting (i + 1) (n - (i + 1))) ++ rest) ok)

  pub turn-no : (e : F) → first_no (q i) ≡ Err e → Err e ≡ first_no (flat_map q (counting i (n - i)) ++ rest)
  turn-no e bad =
      sym (ap first_no turned ∙ first_no-append-err (q i) (flat_map q (counting (i + 1) (n - (i + 1))) ++ rest) e bad)

-- no question is left where no number is
pub turn-all : {F : Type 0} (q : ℕ → Asked F) (i n : ℕ) → n ≤ i → (rest : Asked F) → first_no (flat_map q (counting i (n - i)) ++ rest) ≡ first_no rest
turn-all q i n past rest = let none : n - i ≡ 0 = omega arith in rw none

-- the part of a list that is lent as its block
abbrev pub lent : List ℕ → ℕ → List ℕ
lent bytes place = take (512 * place + 512 - 512 * place) (drop (512 * place) bytes)

pub lent-block : (bytes : List ℕ) (place : ℕ) → lent bytes place ≡ block bytes place
lent-block bytes place =
    let width : 512 * place + 512 - 512 * place ≡ 512 = omega arith in ap (λ n. take n (drop (512 * place) bytes)) width

-- the first whole block of what is left is the block at its place
pub block-more : (bytes bs rest : List ℕ) (place : ℕ) → drop (512 * place) bytes ≡ bs ++ rest → length bs ≡ 512 → (bs ≡ block bytes place) × (rest ≡ drop (512 * (place + 1)) bytes) × (place < block_count bytes)
block-more bytes bs rest place is long =
    let next : 512 * place + 512 ≡ 512 * (place + 1) = omega arith in (
      sym (take_at bs rest 512 long) ∙ ap (take 512) (sym is),
      sym (drop_at bs rest 512 long) ∙ (ap (drop 512) (sym is) ∙ (drop-drop 512 (512 * place) bytes ∙ ap (λ n. drop n bytes) next)),
      omega (arith, ap length is, length-drop (512 * place) bytes, length-append bs rest, long),
    )

-- what is asked of a list of the right length
pub judged-start : (bytes : List ℕ) (n : ℕ) → n ≡ 0 → 512 ≤ length bytes → length bytes ≤ 133120 → length bytes % 512 ≡ 0 → first_no (flat_map (block_questions bytes) (counting n (block_count bytes - n)) ++ flat_map (record_questions bytes) (counting 0 (record_count bytes))) ≡ judged bytes
unfolding judged list_questions
judged-start bytes n start least most whole = rw start (grind (arith, nat_tests))

module _ (bytes : List ℕ) (place : ℕ) (bs : List ℕ) (is : bs ≡ block bytes place) where
  abbrev beyond : Asked ListFault
  beyond = (eqb (get_or bs 3 0) (get_or bytes 3 0), Size place) ∷ above Block (fill_questions (block_count bytes) place bs)

  asked : first_no (block_questions bytes place) ≡ first_no (above Block (seal_questions place bs) ++ beyond)
  unfolding block_questions
  asked = rw is

  pub seal-no : (e : BlockFault) → first_no (seal_questions place bs) ≡ Err e → Err (Block e) ≡ first_no (block_questions bytes place)
  seal-no e bad =
      sym (asked ∙ first_no-append-err (above Block (seal_questions place bs)) beyond (Block e) (first_no-above Block (seal_questions place bs) ∙ ap (raised Block) bad))

  pub seal-ok : first_no (seal_questions place bs) ≡ Ok tt → cond (eqb (get_or bs 3 0) (get_or bytes 3 0)) (raised Block (first_no (fill_questions (block_count bytes) place bs))) (Err (Size place)) ≡ first_no (block_questions bytes place)
  seal-ok ok =
      sym (asked ∙ (first_no-append-ok (above Block (seal_questions place bs)) beyond (first_no-above Block (seal_questions place bs) ∙ ap (raised Block) ok) ∙ ap (λ r. cond (eqb (get_or bs 3 0) (get_or bytes 3 0)) r (Err (Size place))) (first_no-above Block (fill_questions (block_count bytes) place bs))))

-- what the program asks once an input is short enough
pub program-asked : (bytes : List ℕ) → length bytes ≤ 65536 → program_judged bytes ≡ raised Listed (judged bytes)
unfolding program_judged judged
program-asked bytes short =
    cond-true (leb (length bytes) 65536) (first_no (above Listed (list_questions bytes))) (Err Long) (le-leb (length bytes) 65536 short) ∙ first_no-above Listed (list_questions bytes)
