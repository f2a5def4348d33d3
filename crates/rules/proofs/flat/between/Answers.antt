use Rattle.std.proofs.Common.{rules, tests, ◌<◌, ◌^◌, refl, arith}
use Rattle.candidates.specs.Members.{members}
use Rattle.candidates.proofs.Marks.{length-members}
use Rattle.candidates.proofs.Chains.{fits-from_members, sum-from_members}
use Rattle.sheets.specs.Weights.{total, rho}
use Rattle.sheets.proofs.Weights.{rho-limit}
use Rattle.rules.specs.FlatBounds.{total-limit}
use Rattle.rules.proofs.flat.between.Goals as goal

pub sum-requires-clause-fits : goal.sum-requires-clause-fits
sum-requires-clause-fits g c =
    let m = g.S.Sheet.meaning c.args.sheet.now in
    let f = rho m (members c.args.c) in
    let most = total-limit f (λ v. omega (arith, rho-limit m (g.S.Sheet.lawful c.args.sheet.now) (members c.args.c) v, length-members c.args.c)) (members c.args.s) in
    let small : total f (members c.args.s) < 2 ^ 64 = omega (arith, most, length-members c.args.s) in
    fits-from_members f (total f) c.map.result _ (members c.args.s) c.iter.ensures c.map.ensures.source c.map.ensures.closure (λ x r q k. search (rules, tests)) refl (λ _ _. refl) small

pub returns : goal.returns
returns g c =
    let f = rho (g.S.Sheet.meaning c.args.sheet.now) (members c.args.c) in
    sum-from_members f (total f) _ c.sum.result c.sum.ensures.ran _ c.iter.ensures c.map.ensures.source c.map.ensures.closure (λ x r q k. search (rules, tests)) refl (λ _ _. refl)
