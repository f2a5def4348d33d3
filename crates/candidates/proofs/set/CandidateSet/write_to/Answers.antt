use Rattle.std.proofs.Common.{◌≡◌, true, leb, ◌++◌, length, drop, Some, None, sym, refl, ap, ◌∙◌, arith}
use Rattle.std.proofs.lemmas.List.{length-set}
use Rattle.std.proofs.lemmas.Bool.{cond-true, le-leb}
use Rattle.candidates.specs.Members.{members}
use Rattle.candidates.specs.Walk.{remaining}
use Rattle.candidates.proofs.Written.{filled, filled_more, filled_none, filled-all}
use Rattle.candidates.proofs.set.CandidateSet.write_to.Goals as goal

pub loop-place-init : goal.loop-place-init
loop-place-init c =
    let begun = c.iter-v-items.ensures in
    (omega (arith, ap length begun, c.count-count.ensures, c.if-count-buffer.false), refl)

pub loop-place-preserved : goal.loop-place-preserved
loop-place-preserved c =
    let l = c.loop-place in
    let next = c.in-Some.ensures.steps in (
      omega (arith, l.invariant.0, ap length next, length-set l.buffer l.place c.in-Some.v),
      filled_more l.buffer l.place c.in-Some.v (remaining c.next.new.self) (omega (arith, l.invariant.0, ap length next)) ∙ ap (filled l.buffer l.place) (sym next) ∙ l.invariant.1,
    )

pub returns : goal.returns
returns c =
    let l = c.loop-place in
    let list = members c.args.self in
    let buffer = c.args.buffer.now in
    let begun = c.iter-v-items.ensures in
    let room : leb (length list) (length buffer) ≡ true = le-leb (length list) (length buffer) (omega (arith, c.count-count.ensures, c.if-count-buffer.false)) in
    let whole = sym (filled_none l.buffer l.place) ∙ ap (filled l.buffer l.place) (sym c.in-None.ensures.steps.0) ∙ l.invariant.1 ∙ ap (filled buffer 0) begun ∙ filled-all buffer list in
    record {
      value = ap Some c.count-count.ensures ∙ sym (cond-true (leb (length list) (length buffer)) (Some (length list)) None room);
      after = whole ∙ sym (cond-true (leb (length list) (length buffer)) (list ++ drop (length list) buffer) buffer room);
    }
