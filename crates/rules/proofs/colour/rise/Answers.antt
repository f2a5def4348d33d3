use Rattle.std.proofs.Common.{rules, tests, refl, ◌∙◌}
use Rattle.candidates.proofs.Chains.{max-from_members}
use Rattle.rules.specs.Colour.{rise}
use Rattle.rules.proofs.colour.rise.Goals as goal

pub returns : goal.returns
returns g c =
    let m = g.S.Sheet.meaning c.args.sheet.now in
    c.unwrap_or.ensures ∙ max-from_members (λ u. m.points u c.args.v) (λ K. rise m K c.args.v) _ c.max.result c.max.ensures.ran _ c.iter.ensures c.map.ensures.source c.map.ensures.closure (λ x r q k. search (rules, tests)) refl (λ _ _. refl)
