use Rattle.std.proofs.Common.{rules, tests, refl}
use Rattle.candidates.proofs.Chains.{all-from_members}
use Rattle.sheets.specs.Cliques.{fits_all}
use Rattle.sheets.proofs.sums.fits_all.Goals as goal

pub returns : goal.returns
returns g c = let m = g.S.Sheet.meaning c.args.sheet.now in all-from_members (m.fit c.args.v) (fits_all m c.args.v) _ _ c.all.result c.all.ensures.ran _ c.iter.ensures (λ x b q k. search (rules, tests)) refl (λ _ _. refl)
