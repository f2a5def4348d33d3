use Rattle.std.proofs.Common.{◌≡◌, ℕ, ◌-◌, ◌*◌, ◌<◌, ◌≤◌, false, ◌&&◌, leb, is_le, nat_cmp, Some, [], length, drop, sym, ap, ap₂, ◌∙◌, length-drop, arith}
use Rattle.std.specs.Iterator.Adapters.{enumerate_count, enumerate_source}
use Rattle.std.specs.List.{flat_map}
use Rattle.std.specs.declared.ops.RangeInclusive.{RangeInclusive}
use Rattle.std.specs.Range.{range_inclusive_contains, range_inclusive_start, range_inclusive_end, range_inclusive_exhausted}
use Rattle.std.specs.Slice.Iter.{chunks_exact_rest}
use Rattle.std.proofs.lemmas.List.{append-nil}
use Rattle.std.proofs.lemmas.Map.Keys.{le_from_is_le}
use Rattle.std.proofs.lemmas.Result.{err_from_is_err_and}
use Rattle.std.proofs.lemmas.Bool.Decides.{nat_tests}
use Rattle.candidates.specs.Sets.{counting}
use Rattle.sheets.specs.Refusals.{first_no}
use Rattle.blocks.specs.Format.{block, block_count, record_count}
use Rattle.blocks.specs.Questions.{judged, list_questions, block_questions, record_questions}
use Rattle.list_reader.proofs.Turns.{block-more, judged-start, turn-ok, turn-no, turn-all}
use Rattle.list_reader.proofs.asking.check_list.Goals as goal
use Rattle.list_reader.proofs.asking.check_list.Goals.{then-not-contains-via-then-not-contains, then-not-contains-via-else-not-contains+then-bytes-ne0}

is_le-nat_cmp : (x y : ℕ) → is_le (nat_cmp x y) ≡ leb x y
is_le-nat_cmp x y = grind (arith, nat_tests)

-- the test of a range that nothing was taken from
apart-from_contains : (range : RangeInclusive ℕ) (n low high : ℕ) → false ≡ range_inclusive_contains {A = ℕ} (λ x y. Some (nat_cmp x y)) range n → range_inclusive_start range ≡ low → range_inclusive_end range ≡ high → range_inclusive_exhausted range ≡ false → (leb low n && leb n high) ≡ false
apart-from_contains range n low high outside is-low is-high fresh = sym (rw (is-low, is-high, fresh) at outside ∙ ap₂ (λ a b. a && b) (is_le-nat_cmp low n) (is_le-nat_cmp n high))

pub returns-then-not-contains : goal.returns-then-not-contains
unfolding judged list_questions
returns-then-not-contains c =
    elim c.then-not-contains.branch [ then-not-contains-via-then-not-contains w ↦ let apart = apart-from_contains c.new.result (length c.args.bytes.now) 512 133120 w.if-not-contains.ensures.value c.new.ensures.start c.new.ensures.end c.new.ensures.exhausted in grind (arith, nat_tests) | then-not-contains-via-else-not-contains+then-bytes-ne0 w ↦ grind (arith, nat_tests) ]

pub loop-place-init : goal.loop-place-init
loop-place-init c =
    let bytes = c.args.bytes.now in
    let items = c.into_iter-place-iterator.ensures.into_iter_gives in
    let within = c.if-not-contains.ensures.cases in
    let least : 512 ≤ length bytes = le_from_is_le _ _ (rw c.new.ensures.start at within.0) in
    let most : length bytes ≤ 133120 = le_from_is_le _ _ (rw c.new.ensures.end at within.1) in
    let start : enumerate_count c.into_iter-place-iterator.result ≡ 0 = cc in
    let rest : chunks_exact_rest (enumerate_source c.into_iter-place-iterator.result) ≡ bytes = cc in
    record {
      size = cc;
      rest = rest ∙ ap (λ n. drop (512 * n) bytes) (sym start);
      asked = judged-start bytes _ start least most (omega arith);
    }

pub returns-in_err-check_block : goal.returns-in_err-check_block
returns-in_err-check_block c =
    let p = err_from_is_err_and c.from_residual.result c.from_residual.ensures.1 in
    let bytes = c.args.bytes.now in
    let place = enumerate_count c.loop-place.place-iterator in
    let step = c.in-Some.ensures.steps in
    let more = block-more bytes c.in-Some.block.now (chunks_exact_rest (enumerate_source c.next.new.self)) place (sym c.loop-place.invariant.rest ∙ step.0.1.0) (step.0.1.1 ∙ c.loop-place.invariant.size) in
    let asked = c.in_err-check_block.ensures (more.0 ∙ ap (block bytes) (sym step.1)) in
    rw (p.1, p.2) (turn-no (block_questions bytes) place (block_count bytes) more.2 (flat_map (record_questions bytes) (counting 0 (record_count bytes))) _ (ap (λ n. first_no (block_questions bytes n)) (sym step.1) ∙ sym asked) ∙ c.loop-place.invariant.asked)

pub loop-place-preserved : goal.loop-place-preserved
loop-place-preserved c =
    let bytes = c.args.bytes.now in
    let place = enumerate_count c.loop-place.place-iterator in
    let step = c.in-Some.ensures.steps in
    let more = block-more bytes c.in-Some.block.now (chunks_exact_rest (enumerate_source c.next.new.self)) place (sym c.loop-place.invariant.rest ∙ step.0.1.0) (step.0.1.1 ∙ c.loop-place.invariant.size) in
    let asked = c.in_ok-check_block.ensures (more.0 ∙ ap (block bytes) (sym step.1)) in
    let turned = turn-ok (block_questions bytes) place (block_count bytes) more.2 (flat_map (record_questions bytes) (counting 0 (record_count bytes))) (ap (λ n. first_no (block_questions bytes n)) (sym step.1) ∙ sym asked) in
    record {
      size = step.0.0 ∙ c.loop-place.invariant.size;
      rest = more.1 ∙ ap (λ n. drop (512 * n) bytes) (sym step.2);
      asked = rw step.2 (turned ∙ c.loop-place.invariant.asked);
    }

pub loop-j-init : goal.loop-j-init
loop-j-init c =
    let bytes = c.args.bytes.now in
    let place = enumerate_count c.loop-place.place-iterator in
    let step = c.in-None.ensures.steps in
    let past : block_count bytes ≤ place = omega (arith, ap length c.loop-place.invariant.rest, length-drop (512 * place) bytes, c.loop-place.invariant.size, step.0.1.0) in
    let whole : record_count bytes - 0 ≡ record_count bytes = omega arith in
    ap first_no (append-nil (flat_map (record_questions bytes) (counting 0 (record_count bytes - 0)))) ∙ (ap (λ n. first_no (flat_map (record_questions bytes) (counting 0 n))) whole ∙ (sym (turn-all (block_questions bytes) place (block_count bytes) past (flat_map (record_questions bytes) (counting 0 (record_count bytes)))) ∙ c.loop-place.invariant.asked))

pub returns-in_err-check_record : goal.returns-in_err-check_record
returns-in_err-check_record c =
    let p = err_from_is_err_and c.from_residual-in_err-check_record.result c.from_residual-in_err-check_record.ensures.1 in
    let bytes = c.args.bytes.now in
    let less : c.loop-j.j < record_count bytes = omega arith in
    rw (p.1, p.2) (turn-no (record_questions bytes) c.loop-j.j (record_count bytes) less [] _ (sym c.in_err-check_record.ensures) ∙ c.loop-j.invariant)

pub loop-j-preserved : goal.loop-j-preserved
loop-j-preserved c =
    let bytes = c.args.bytes.now in
    let less : c.loop-j.j < record_count bytes = omega arith in
    turn-ok (record_questions bytes) c.loop-j.j (record_count bytes) less [] (sym c.in_ok-check_record.ensures) ∙ c.loop-j.invariant
