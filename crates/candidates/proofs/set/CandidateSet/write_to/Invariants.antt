use Rattle.std.proofs.Common.{◌≡◌, ◌+◌, ◌≤◌, length}
use Rattle.candidates.specs.Walk.{remaining}
use Rattle.candidates.proofs.Written.{filled}
use Rattle.candidates.proofs.set.CandidateSet.write_to.Given as goal

-- what is left gives the whole
abbrev pub invariant-loop-place : goal.invariant-loop-place
invariant-loop-place l =
    (l.place + length (remaining l.v-iterator) ≤ length l.buffer)
    × (filled l.buffer l.place (remaining l.v-iterator) ≡ filled l.initial.buffer 0 (remaining l.initial.v-iterator))
