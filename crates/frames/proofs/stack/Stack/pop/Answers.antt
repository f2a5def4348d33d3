use Rattle.std.proofs.Common.{reverse, take, drop, ap, ◌∙◌, arith}
use Rattle.frames.proofs.Items.{reverse-less}
use Rattle.frames.proofs.stack.Stack.pop.Goals as goal

pub returns : goal.returns
returns g c =
    let inside = c.self.inside in
    ap (λ n. reverse (take n inside.items)) c.saturating_sub-self-inside.ensures
    ∙ reverse-less inside.items inside.count (omega (arith, c.self.invariant.0, c.self.invariant.1))
    ∙ ap (drop 1) c.self.view_is
