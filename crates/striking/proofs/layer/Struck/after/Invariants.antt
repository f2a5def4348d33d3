use Rattle.std.proofs.Common.{◌≡◌, ℕ, false, drop}
use Rattle.candidates.specs.Members.{members}
use Rattle.candidates.specs.Sets.{is_in}
use Rattle.striking.proofs.Standing.{struck_by}
use Rattle.striking.proofs.layer.Struck.after.Given as goal

-- the moves that are left lead to what all of them lead to
abbrev pub invariant-loop-step : goal.invariant-loop-step
invariant-loop-step g l =
    let n = (g.S.Sheet.meaning l.initial.layer.sheet).size in
    (l.layer.sheet ≡ l.initial.layer.sheet) × ((v : ℕ) → struck_by n v (is_in v (members l.layer.struck)) (drop l.step-index l.moves) ≡ struck_by n v false l.moves)
