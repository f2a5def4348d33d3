use Rattle.std.proofs.Common.{sym, ◌∙◌}
use Rattle.runs.specs.State.{node}
use Rattle.search.specs.Searching.{state_of}
use Rattle.search.proofs.Advance.{advanced-more}
use Rattle.search.proofs.search.Search.advance.Goals as goal

pub loop-done-preserved : goal.loop-done-preserved
loop-done-preserved g c =
    let self = c.args.self.now in
    let now = c.loop-done.self in
    let inv = c.loop-done.invariant in
    let next = c.node.ensures ∙ (λ i. node (g.S.Sheet.meaning (inv.1 i)) (g.R.Rule.value (inv.2 i)) (state_of now)) in
    (advanced-more (g.S.Sheet.meaning self.sheet) (g.R.Rule.value self.rule) c.args.k (state_of self) c.loop-done.done (state_of now) c.node.new.core c.loop-done-test.true (sym c.if-is_finished.ensures) next inv.0, inv.1, inv.2)
