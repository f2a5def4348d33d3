use Rattle.std.proofs.Common.{sym, subst, arith}
use Rattle.candidates.specs.Members.{members}
use Rattle.candidates.proofs.Sets.{nothing-from-least}
use Rattle.exhaustive.specs.Explored.{Explored, held_of}
use Rattle.exhaustive.proofs.Branching.{open-with, open-without, fewer-with, fewer-without, explored-both}
use Rattle.exhaustive.proofs.pairing.+explore.Goals as goal

pub returns-in_default : goal.returns-in_default
returns-in_default g t c =
    let m = g.S.Sheet.meaning c.args.sheet.now in
    let frame = c.args.frame in
    subst (λ S. Explored m (members frame.clique) S (held_of c.args.held) (held_of c.heavier.result)) (sym (nothing-from-least (members frame.rest) c.in_default.ensures)) c.heavier.ensures

pub explore-held-requires : goal.explore-held-requires
explore-held-requires g t c κs within =
    let b = c.branch-with.ensures in
    let lowest = c.in-Some.ensures in
    (omega (arith, c.decreases, fewer-with b lowest), (within, open-with b lowest (g.S.Sheet.lawful c.args.sheet.now) c.requires))

pub explore-requires : goal.explore-requires
explore-requires g t c κs within =
    let b = c.branch-with.ensures in
    let lowest = c.in-Some.ensures in
    (omega (arith, c.decreases, fewer-without b lowest), (within, open-without b lowest (g.S.Sheet.lawful c.args.sheet.now) c.requires))

pub returns : goal.returns
returns g t c = explored-both c.branch-with.ensures c.in-Some.ensures (g.S.Sheet.lawful c.args.sheet.now) c.requires _ _ _ c.explore-held.ensures c.explore.ensures
