use Rattle.std.proofs.Common.{◌≡◌, max, ◌++◌}
use Rattle.candidates.specs.Members.{members}
use Rattle.candidates.specs.Walk.{remaining}
use Rattle.rules.specs.Noted.{at}
use Rattle.rules.specs.Path.{longest, path}
use Rattle.rules.proofs.path.longest.Given as goal

-- what is left gives the whole
abbrev pub invariant-loop-v : goal.invariant-loop-v
invariant-loop-v g l =
    let m = g.S.Sheet.meaning l.sheet in
    let C = members l.c in
    (members l.lower ++ remaining l.v-iterator ≡ remaining l.initial.v-iterator)
    × (max l.most (longest m C (members l.lower) (at l.lengths) (remaining l.v-iterator)) ≡ path m C (remaining l.initial.v-iterator))
