use Rattle.std.proofs.Common.{◌≡◌, vec_items}
use Rattle.search.specs.Searching.{state_of}
use Rattle.search.proofs.Answered.{answered}
use Rattle.search.proofs.replay.run.Given as goal

-- with what the calls that are left will be answered, the answers are whole
abbrev pub invariant-loop-call : goal.invariant-loop-call
invariant-loop-call g l =
    let whole = answered (g.S.Sheet.meaning l.initial.search.sheet) (g.R.Rule.value l.initial.search.rule) l.calls in
    (whole (vec_items l.answers) (state_of l.search) l.call-index ≡ whole (vec_items l.initial.answers) (state_of l.initial.search) 0)
    × (l.search.sheet ≡ l.initial.search.sheet) × (l.search.rule ≡ l.initial.search.rule)
