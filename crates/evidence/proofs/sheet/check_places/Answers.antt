use Rattle.std.proofs.Common.{rules, ◌≡◌, ◌||◌, nat_le, length, sym, ◌∙◌, arith}
use Rattle.std.specs.List.{position}
use Rattle.std.proofs.lemmas.Bool.Decides.{nat_tests}
use borrow.Author.Tests.{tests}
use Rattle.std.proofs.lemmas.Iterator.{YieldsList-from_slice}
use Rattle.std.proofs.lemmas.Iterator.Search.{position_from_yields_List}
use Rattle.evidence.specs.Judged.{places_within}
use Rattle.evidence.proofs.Questions.{first_no-found, first_no-nothing}
use Rattle.evidence.proofs.sheet.check_places.Goals as goal
use Rattle.evidence.proofs.sheet.check_places.Goals.{After-position-outside}

-- what the code looks for
found : (c : After-position-outside) → c.position-outside.result ≡ position (λ x. nat_le c.args.meters x.meter || nat_le c.args.flats x.flat) c.args.candidates.now
found c =
    position_from_yields_List (λ x. nat_le c.args.meters x.meter || nat_le c.args.flats x.flat) _ _ c.position-outside.result c.position-outside.ensures.ran
    (YieldsList-from_slice c.args.candidates.now cc) (λ x b q k. search (rules, tests))

pub returns-in-Some : goal.returns-in-Some
returns-in-Some c =
    sym (first_no-found (places_within c.args.meters c.args.flats c.args.candidates.now) _ c.args.candidates.now 0 (length c.args.candidates.now) (record { meter = 0; flat = 0 }) (λ k lt. grind (arith, nat_tests)) (omega arith) c.in-Some.candidate c.in-Some.candidate (omega arith) (sym c.in-Some.is ∙ found (goal.at.returns-in-Some c).After-position-outside))

pub returns-in-None : goal.returns-in-None
returns-in-None c =
    sym (first_no-nothing (places_within c.args.meters c.args.flats c.args.candidates.now) _ c.args.candidates.now 0 (length c.args.candidates.now) (record { meter = 0; flat = 0 }) (λ k lt. grind (arith, nat_tests)) (omega arith) (sym c.in-None.is ∙ found (goal.at.returns-in-None c).After-position-outside))
