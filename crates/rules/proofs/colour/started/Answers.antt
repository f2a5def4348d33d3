use Rattle.std.proofs.Common.{sym, ap, ◌∙◌}
use Rattle.candidates.specs.Members.{members}
use Rattle.candidates.specs.Walk.{remaining}
use Rattle.candidates.proofs.Walk.{next-below}
use Rattle.sheets.specs.Weights.{rho}
use Rattle.rules.specs.Colour.{started}
use Rattle.rules.specs.Noted.{at, noted}
use Rattle.rules.proofs.Notes.{filled, filled-more}
use Rattle.rules.proofs.colour.started.Goals as goal

pub note-requires : goal.note-requires
note-requires g c = next-below _ _ _ c.in-Some.ensures.steps

pub loop-v-preserved : goal.loop-v-preserved
loop-v-preserved g c =
    let f = rho (g.S.Sheet.meaning c.args.sheet.now) (members c.args.c) in
    let σ = at c.loop-v.sigma in
    let v = c.in-Some.v in
    let rest = remaining c.next.new.self in
    ap (filled f rest) (c.note.ensures ∙ ap (λ x. noted v x σ) c.rho.ensures)
    ∙ filled-more f σ v rest
    ∙ ap (λ l. filled f l σ) (sym c.in-Some.ensures.steps)
    ∙ c.loop-v.invariant

pub returns : goal.returns
returns g c =
    let m = g.S.Sheet.meaning c.args.sheet.now in
    let C = members c.args.c in
    let begun = ap remaining c.into_iter-v-iterator.ensures.into_iter_gives ∙ c.iter-v-items.ensures in
    ap (λ l. filled (rho m C) l (at c.loop-v.sigma)) (sym c.in-None.ensures.steps.0) ∙ c.loop-v.invariant ∙ ap (started m C) begun
