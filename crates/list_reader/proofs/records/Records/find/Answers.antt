use Rattle.std.proofs.Common.{◌≡◌, ◌-◌, ◌<◌, Some, sym, ap, ◌∙◌, arith}
use Rattle.blocks.specs.Format.{record_at, record_count}
use Rattle.list_reader.specs.Halving.{halving, found}
use Rattle.list_reader.proofs.Halving.{middle_of, halving-here, halving-above, halving-below, halving-none}
use Rattle.list_reader.proofs.records.Records.find.Goals as goal

pub loop-low-init : goal.loop-low-init
unfolding found
loop-low-init c =
    let bytes = c.args.self.now.bytes.now in
    let whole : record_count bytes - 0 ≡ record_count bytes = omega arith in
    ap (λ n. halving (record_at bytes) c.args.key (n - 0) 0 n) c.count-high.ensures ∙ ap (λ n. halving (record_at bytes) c.args.key n 0 (record_count bytes)) whole

pub returns-then-here-key : goal.returns-then-here-key
returns-then-here-key c =
    let bytes = c.args.self.now.bytes.now in
    let same : (record_at bytes (middle_of c.loop-low.low c.loop-low.high)).key ≡ c.args.key = omega arith in
    ap Some c.points.ensures ∙ (sym (halving-here (record_at bytes) c.args.key c.loop-low.low c.loop-low.high c.loop-low-test.true same) ∙ c.loop-low.invariant)

pub loop-low-preserved-then-here-key-2 : goal.loop-low-preserved-then-here-key-2
loop-low-preserved-then-here-key-2 c =
    let bytes = c.args.self.now.bytes.now in
    let less : (record_at bytes (middle_of c.loop-low.low c.loop-low.high)).key < c.args.key = omega arith in
    sym (halving-above (record_at bytes) c.args.key c.loop-low.low c.loop-low.high c.loop-low-test.true less) ∙ c.loop-low.invariant

pub loop-low-preserved : goal.loop-low-preserved
loop-low-preserved c =
    let bytes = c.args.self.now.bytes.now in
    let more : c.args.key < (record_at bytes (middle_of c.loop-low.low c.loop-low.high)).key = omega arith in
    sym (halving-below (record_at bytes) c.args.key c.loop-low.low c.loop-low.high c.loop-low-test.true more) ∙ c.loop-low.invariant

pub returns : goal.returns
returns c =
    sym (halving-none (record_at c.args.self.now.bytes.now) c.args.key (c.loop-low.high - c.loop-low.low) c.loop-low.low c.loop-low.high c.loop-low-test.false) ∙ c.loop-low.invariant
