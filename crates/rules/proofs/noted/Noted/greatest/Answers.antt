use Rattle.std.proofs.Common.{rules, tests, refl, ap, ◌∙◌}
use Rattle.candidates.specs.Walk.{remaining}
use Rattle.candidates.proofs.Chains.{serves-from_members, max-from_members}
use Rattle.rules.specs.Greatest.{greatest}
use Rattle.rules.specs.Noted.{at}
use Rattle.rules.proofs.noted.Noted.greatest.Goals as goal

pub max-requires-clause-can : goal.max-requires-clause-can
max-requires-clause-can c = (tt, serves-from_members _ (ap remaining c.map.ensures.source ∙ c.iter.ensures) (λ x q k. search (rules, tests)) (λ x inside below. search (rules, tests)))

pub returns : goal.returns
returns c = c.unwrap_or.ensures ∙ max-from_members (at c.args.self.now) (greatest (at c.args.self.now)) _ c.max.result c.max.ensures.ran _ c.iter.ensures c.map.ensures.source c.map.ensures.closure (λ x r q k. search (rules, tests)) refl (λ _ _. refl)
