use Rattle.frames.specs.View.{held_by}
use Rattle.frames.proofs.Frames.{reach-after, node-after}
use Rattle.frames.proofs.search_core.node.node.Goals as goal

pub invariant_of-core-2 : goal.invariant_of-core-2
invariant_of-core-2 g c =
    let core = c.core.inside in
    reach-after core.stack c.branch_top.new.stack c.in-Some.top c.in-Some-lowest.v c.in-Some-open_bound.bound c.fitting.result c.in-Some.ensures c.in-Some-lowest.ensures c.branch_top.ensures c.core.invariant

pub returns : goal.returns
returns g c =
    let core = c.core.inside in
    node-after core.stack c.branch_top.new.stack c.in-Some.top c.in-Some-lowest.v c.in-Some-open_bound.bound c.fitting.result c.in-Some.ensures c.in-Some-lowest.ensures c.branch_top.ensures
    (g.S.Sheet.meaning c.args.sheet.now) (g.R.Rule.value c.args.rule.now) (held_by core.marks core.held) c.args.core.now c.core.view_is c.fitting.ensures c.in-Some-open_bound.ensures
