use Rattle.std.proofs.Common.{◌<◌, false, Decides, sym, ◌∙◌, subst}
use Rattle.std.proofs.lemmas.List.{at_drop_all}
use Rattle.std.proofs.lemmas.Bool.Decides.{Decides-at}
use Rattle.candidates.specs.Members.{members}
use Rattle.candidates.specs.Sets.{is_in}
use Rattle.striking.specs.Moves.{LastStrikes}
use Rattle.striking.proofs.Standing.{struck_by, struck_by-decides}
use Rattle.striking.proofs.layer.Struck.after.Goals as goal

pub returns-clause-struck : goal.returns-clause-struck
returns-clause-struck g c = λ v.
    let size = λ (s : g.row.S.Denot). (g.S.Sheet.meaning s).size in
    let n = size c.new-layer.result.sheet in
    let ms = c.args.moves.now in
    let now = is_in v (members c.loop-step.layer.struck) in
    let all = sym (at_drop_all (struck_by n v now) ms c.loop-step.step-index c.loop-step-test.false) ∙ c.loop-step.invariant.1 v in
    subst (λ s. Decides now ((v < size s) × LastStrikes v ms)) c.new-layer.ensures.below (Decides-at now (struck_by n v false ms) all (struck_by-decides n v ms))
