use Rattle.std.proofs.Common.{◌≡◌, ◌-◌, ◌+◌, ◌*◌, ◌<◌, ◌≤◌, drop, length, get_or, sym, ap, ap₂, ◌∙◌, mul-le-mul, length-drop, arith}
use Rattle.std.specs.Iterator.Adapters.{enumerate_count, enumerate_source, take_source}
use Rattle.std.specs.Slice.Iter.{iter_rest}
use Rattle.blocks.specs.Format.{weighed}
use Rattle.blocks.proofs.Sums.{left-more, weighed-more, weighed_past}
use Rattle.blocks.proofs.checks.check_of.Goals as goal

pub loop-i-preserved : goal.loop-i-preserved
loop-i-preserved c =
    let block = c.args.block.now in
    let i = enumerate_count c.loop-i.i-iterator in
    let step = c.in-Some.ensures.steps in
    let first = left-more block (iter_rest (take_source (enumerate_source c.next.new.self))) i c.in-Some.byte.now (sym c.loop-i.invariant.rest ∙ step.0.0) in
    let inside : i < 508 = omega arith in
    let term : (c.in-Some.i + 1) * c.from.result ≡ (i + 1) * get_or block i 0 = ap₂ (λ n b. (n + 1) * b) step.1 (c.from.ensures ∙ first.0) in
    let low : c.in-Some.i + 1 ≤ 508 = omega arith in
    let byte : c.from.result ≤ 255 = omega (arith, first.0, c.type_inv.block i) in
    let most : (c.in-Some.i + 1) * c.from.result ≤ 508 * 255 = mul-le-mul low byte in
    let grown : weighed block i (508 - i) ≡ (i + 1) * get_or block i 0 + weighed block (enumerate_count c.next.new.self) (508 - enumerate_count c.next.new.self) = rw step.2 (weighed-more block i 508 inside) in
    record {
      left = omega arith;
      rest = first.1 ∙ ap (λ n. drop n block) (sym step.2);
      so_far = omega (arith, term, grown);
      most = omega arith;
    }

pub returns : goal.returns
returns c =
    let block = c.args.block.now in
    let i = enumerate_count c.loop-i.i-iterator in
    let left : length (iter_rest (take_source (enumerate_source c.loop-i.i-iterator))) ≡ length block - i = ap length c.loop-i.invariant.rest ∙ length-drop i block in
    let none = weighed_past block i (508 - i) (λ more. omega (arith, left, (c.in-None.ensures.steps.0 (omega arith)).0)) in
    omega arith
