use Rattle.std.proofs.Common.{◌≡◌, ◌+◌, ◌-◌, ◌*◌, true, false, leb, length, take, drop, Ok, sym, ap, ap₂, ◌∙◌, arith}
use Rattle.std.proofs.lemmas.Bool.{cond-true, cond-false, le-leb, lt-leb}
use Rattle.std.proofs.lemmas.List.{drop-drop}
use Rattle.blocks.specs.Format.{block_at, content, records, sealed, written}
use Rattle.list_writer.proofs.Worked.{worked-lists}
use Rattle.list_writer.proofs.Rounds.{round_trip}
use Rattle.list_writer.proofs.Steps.{length-written, standing-put, written-put}
use Rattle.list_writer.proofs.writing.write_list.Goals as goal

pub returns-then-buffer-blocks : goal.returns-then-buffer-blocks
returns-then-buffer-blocks g c =
    let m = g.S.Sheet.meaning c.args.sheet.now in
    let short : leb (length (written m)) (length c.args.buffer.now) ≡ false = lt-leb (length (written m)) (length c.args.buffer.now) (omega (arith, length-written m)) in
    record {
      value = sym (cond-false _ _ _ short);
      after = sym (cond-false _ _ _ short);
      round = round_trip m (g.S.Sheet.lawful c.args.sheet.now);
      worked = worked-lists;
    }

pub loop-place-preserved : goal.loop-place-preserved
unfolding block_at
loop-place-preserved g c =
    let m = g.S.Sheet.meaning c.args.sheet.now in
    let place = c.loop-place.place in
    let before = c.loop-place.invariant in
    let next : 126 * place + 126 ≡ 126 * (place + 1) = omega arith in
    record {
      stand = standing-put (m.size - 1) (records m) place c.args.buffer.now c.loop-place.buffer _ before.stand (c.copy_from_slice.ensures.after ∙ (c.next_block-block.ensures.block ∙ ap₂ (λ n rs. sealed (content (n - 1) place (take 126 rs))) c.size.ensures before.left));
      left = c.next_block-block.ensures.rest ∙ (ap (drop 126) before.left ∙ (drop-drop 126 (126 * place) (records m) ∙ ap (λ n. drop n (records m)) next));
    }

pub returns : goal.returns
returns g c =
    let m = g.S.Sheet.meaning c.args.sheet.now in
    let enough : leb (length (written m)) (length c.args.buffer.now) ≡ true = le-leb (length (written m)) (length c.args.buffer.now) (omega (arith, length-written m)) in
    record {
      value = ap Ok (omega (arith, length-written m)) ∙ sym (cond-true _ _ _ enough);
      after = written-put m c.loop-place.place c.args.buffer.now c.loop-place.buffer (omega arith) c.loop-place.invariant.stand ∙ sym (cond-true _ _ _ enough);
      round = round_trip m (g.S.Sheet.lawful c.args.sheet.now);
      worked = worked-lists;
    }
