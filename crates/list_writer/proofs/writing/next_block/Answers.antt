use Rattle.std.proofs.Common.{◌≡◌, ◌∷◌, length, take, drop, sym, refl, ap, ◌∙◌, arith}
use Rattle.std.specs.Int.{to_le_bytes, w32}
use Rattle.std.proofs.lemmas.List.{length-drop}
use Rattle.blocks.specs.Bytes.{low_first}
use Rattle.blocks.specs.Format.{content}
use Rattle.list_writer.specs.Records.{record_meant, to_come}
use Rattle.list_writer.proofs.Filling.{filled-check, filled-count, filled-more, filled-sealed, take-past, take-least, drop-past, drop-least, drop-next}
use Rattle.list_writer.proofs.writing.next_block.Goals as goal
use Rattle.list_writer.proofs.writing.next_block.Goals.{else-loop-i-test, then-loop-i-test+in_default}

pub loop-i-init : goal.loop-i-init
unfolding content low_first
loop-i-init g c = record { filled = rw (c.copy_from_slice.ensures.after, c.to_le_bytes.ensures) refl; left = refl; some = omega arith }

pub overflow_add-block : goal.overflow_add-block
overflow_add-block g c =
    let before = c.loop-i.invariant in
    omega (arith, filled-count c.args.low c.args.place (to_come g.S.Sheet c.args.records.now) c.loop-i.i c.loop-i.block before.filled before.some)

pub loop-i-preserved : goal.loop-i-preserved
loop-i-preserved g c =
    let rs = to_come g.S.Sheet c.args.records.now in
    let i = c.loop-i.i in
    let before = c.loop-i.invariant in
    let left : drop i rs ≡ record_meant c.in-Some.record ∷ to_come g.S.Sheet c.next.new.self = sym before.left ∙ c.in-Some.ensures.steps in
    record {
      filled = filled-more c.args.low c.args.place rs i c.loop-i.block before.filled before.some _ _ _ (omega arith) left (c.copy_from_slice-in-loop-i.ensures.after ∙ c.to_bytes.ensures);
      left = sym (drop-next rs i _ _ left);
      some = omega (arith, ap length left, length-drop i rs);
    }

pub overflow_cast-check : goal.overflow_cast-check
overflow_cast-check g c =
    let before = c.loop-i.invariant in
    omega (arith, c.check_of-check.ensures, filled-check c.args.low c.args.place (to_come g.S.Sheet c.args.records.now) c.loop-i.i c.loop-i.block before.filled before.some (omega arith) (omega arith))

pub returns-clause-block : goal.returns-clause-block
returns-clause-block g c =
    let rs = to_come g.S.Sheet c.args.records.now in
    let i = c.loop-i.i in
    let before = c.loop-i.invariant in
    let all : take i rs ≡ take 126 rs = elim c.loop-i-test.branch [ else-loop-i-test w ↦ take-least rs i 126 (omega arith) | then-loop-i-test+in_default w ↦ take-past rs i 126 (omega arith) (sym before.left ∙ w.in_default.ensures.steps.0) ] in
    filled-sealed c.args.low c.args.place rs i c.loop-i.block before.filled before.some _ (omega arith) all (c.copy_from_slice-2.ensures.after ∙ (c.to_le_bytes-2.ensures ∙ ap (to_le_bytes w32) c.check_of-check.ensures))

pub returns-clause-rest : goal.returns-clause-rest
returns-clause-rest g c =
    let rs = to_come g.S.Sheet c.args.records.now in
    let i = c.loop-i.i in
    let before = c.loop-i.invariant in
    elim c.loop-i-test.branch [ else-loop-i-test w ↦ ap (to_come g.S.Sheet) w.records-is ∙ (before.left ∙ drop-least rs i 126 (omega arith)) | then-loop-i-test+in_default w ↦ ap (to_come g.S.Sheet) w.records-is ∙ (w.in_default.ensures.steps.1 ∙ sym (drop-past rs i 126 (omega arith) (sym before.left ∙ w.in_default.ensures.steps.0))) ]
