use Rattle.std.proofs.Common.{◌≡◌, [], ◌∷◌, get_or, sym, refl, ap, ◌∙◌}
use Rattle.candidates.specs.Sets.{is_in}
use Rattle.candidates.proofs.Marks.{nothing-from-words, each-four, is_in-members}
use Rattle.candidates.proofs.set.CandidateSet.empty.Goals as goal

pub returns-clause-list : goal.returns-clause-list
returns-clause-list c = nothing-from-words _ (each-four (λ q. get_or (0 ∷ 0 ∷ 0 ∷ 0 ∷ []) q 0 ≡ 0) refl refl refl refl)

pub returns-clause-marks : goal.returns-clause-marks
returns-clause-marks c = λ k. sym (is_in-members _ k) ∙ ap (is_in k) (returns-clause-list c)
