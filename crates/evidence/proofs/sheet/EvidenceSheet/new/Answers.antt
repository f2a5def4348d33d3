use Rattle.std.proofs.Common.{◌≤◌, rules, tests, length, sym, refl, ◌∙◌}
use Rattle.std.proofs.lemmas.Result.{err_from_is_err_and}
use Rattle.evidence.proofs.Questions.{judged-serials, judged-places}
use Rattle.evidence.proofs.sheet.EvidenceSheet.new.Goals as goal
use Rattle.evidence.proofs.sheet.EvidenceSheet.new.Goals.{After-check_serials}

-- the number of candidates passed the test
counted : (c : After-check_serials) → (1 ≤ length c.args.candidates.now) × (length c.args.candidates.now ≤ 256)
counted c = (search (rules, tests), search (rules, tests))

pub returns-in_err-check_serials-clause-value : goal.returns-in_err-check_serials-clause-value
returns-in_err-check_serials-clause-value c =
    let n = counted (goal.at.returns-in_err-check_serials-clause-value c).After-check_serials in
    let ms = c.args.meters.now in
    let fs = c.args.flats.now in
    let cs = c.args.candidates.now in
    let left = err_from_is_err_and c.from_residual.result c.from_residual.ensures.1 in
    rw (left.1, left.2) (judged-serials ms fs cs n.0 n.1 _ c.in_err-check_serials.ensures)

pub returns-in_err-check_places-clause-value : goal.returns-in_err-check_places-clause-value
returns-in_err-check_places-clause-value c =
    let n = counted (goal.at.returns-in_err-check_places-clause-value c).After-check_serials in
    let ms = c.args.meters.now in
    let fs = c.args.flats.now in
    let cs = c.args.candidates.now in
    let left = err_from_is_err_and c.from_residual-in_err-check_places.result c.from_residual-in_err-check_places.ensures.1 in
    rw (left.1, left.2) (judged-places ms fs cs n.0 n.1 c.in_ok-check_serials.ensures ∙ sym c.in_err-check_places.ensures)

pub returns-clause-value : goal.returns-clause-value
returns-clause-value c =
    let n = counted (goal.at.returns-clause-value c).After-check_serials in
    let ms = c.args.meters.now in
    let fs = c.args.flats.now in
    let cs = c.args.candidates.now in
    (judged-places ms fs cs n.0 n.1 c.in_ok-check_serials.ensures ∙ sym c.in_ok-check_places.ensures, refl)
