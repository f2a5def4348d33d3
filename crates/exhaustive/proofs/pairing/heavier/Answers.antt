use Rattle.std.proofs.Common.{[], Some, sym, subst}
use Rattle.candidates.specs.Members.{members}
use Rattle.exhaustive.specs.Explored.{Explored, held_of}
use Rattle.exhaustive.proofs.Frames.{explored-leaf-gives}
use Rattle.exhaustive.proofs.pairing.heavier.Goals as goal

pub returns-in_default : goal.returns-in_default
returns-in_default g c =
    let m = g.S.Sheet.meaning c.args.sheet.now in
    let C = members c.args.set in
    let w = c.weight-points.result in
    subst (λ h. Explored m C [] (held_of h) (Some (C, w))) (sym c.in-Some.is) (explored-leaf-gives m C _ w c.weight-points.ensures.value c.if-best-points.false)

pub returns-in_default-2 : goal.returns-in_default-2
returns-in_default-2 g c =
    let m = g.S.Sheet.meaning c.args.sheet.now in
    let C = members c.args.set in
    let w = c.weight-points.result in
    subst (λ h. Explored m C [] (held_of h) (Some (C, w))) (sym c.in_default.is) (explored-leaf-gives m C _ w c.weight-points.ensures.value tt)
