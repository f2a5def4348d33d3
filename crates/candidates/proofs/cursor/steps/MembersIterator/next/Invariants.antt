use Rattle.std.proofs.Common.{◌≡◌, ◌-◌, ◌^◌, ◌<◌, length}
use Rattle.candidates.specs.Walk.{remaining}
use Rattle.candidates.proofs.cursor.steps.MembersIterator.next.Given as goal

-- passing over empty words leaves what remains
abbrev pub invariant-loop-self : goal.invariant-loop-self
invariant-loop-self l = (remaining l.self ≡ remaining l.initial.self) × (length l.self.words ≡ 4) × (l.self.word < 2 ^ 64)

abbrev pub decreases-loop-self : goal.decreases-loop-self
decreases-loop-self l = 4 - l.self.place
