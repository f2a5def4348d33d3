use Rattle.std.proofs.Common.{◌≡◌}
use Rattle.candidates.specs.Members.{members}
use Rattle.candidates.specs.Walk.{remaining}
use Rattle.sheets.specs.Cliques.{is_clique}
use Rattle.sheets.proofs.sums.is_clique.Given as goal

-- what is left gives the whole
abbrev pub invariant-loop-v : goal.invariant-loop-v
invariant-loop-v g l =
    let m = g.S.Sheet.meaning l.sheet in
    (members l.rest ≡ remaining l.v-iterator) × (is_clique m (members l.rest) ≡ is_clique m (members l.initial.rest))
