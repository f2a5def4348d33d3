use Rattle.std.proofs.Common.{rules, tests, ◌<◌, ◌^◌, refl, arith}
use Rattle.candidates.specs.Members.{members}
use Rattle.candidates.proofs.Marks.{length-members}
use Rattle.candidates.proofs.Chains.{fits-from_members, sum-from_members}
use Rattle.sheets.specs.Weights.{rho}
use Rattle.sheets.proofs.Weights.{rho-limit}
use Rattle.sheets.proofs.sums.rho.Goals as goal

pub sum-requires-clause-fits : goal.sum-requires-clause-fits
sum-requires-clause-fits g c =
    let m = g.S.Sheet.meaning c.args.sheet.now in
    let set = members c.args.set in
    let small : rho m set c.args.v < 2 ^ 64 = omega (arith, rho-limit m (g.S.Sheet.lawful c.args.sheet.now) set c.args.v, length-members c.args.set) in
    fits-from_members (λ u. m.points u c.args.v) (λ K. rho m K c.args.v) c.map.result _ set c.iter.ensures c.map.ensures.source c.map.ensures.closure (λ x r q k. search (rules, tests)) refl (λ _ _. refl) small

pub returns : goal.returns
returns g c =
    let m = g.S.Sheet.meaning c.args.sheet.now in
    sum-from_members (λ u. m.points u c.args.v) (λ K. rho m K c.args.v) _ c.sum.result c.sum.ensures.ran _ c.iter.ensures c.map.ensures.source c.map.ensures.closure (λ x r q k. search (rules, tests)) refl (λ _ _. refl)
