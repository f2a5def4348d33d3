use Rattle.std.proofs.Common.{rules, tests, refl}
use Rattle.candidates.proofs.Chains.{serves_by_key-from_members, min_by_key-from_members}
use Rattle.rules.specs.Least.{least_by, least_of}
use Rattle.rules.specs.Noted.{at}
use Rattle.rules.proofs.noted.Noted.least.Goals as goal

pub min_by_key-requires-clause-callable : goal.min_by_key-requires-clause-callable
min_by_key-requires-clause-callable c = serves_by_key-from_members (λ x k q called. search (rules, tests)) _ _ c.iter.ensures (λ x inside below. search (rules, tests))

pub returns : goal.returns
returns c =
    let σ = at c.args.self.now in
    min_by_key-from_members σ (least_by σ) (λ x k q called. search (rules, tests)) (least_of σ) _ _ c.min_by_key.ensures.ran _ c.iter.ensures refl (λ _ _. refl) (λ _. refl) (λ _ _ _. refl)
