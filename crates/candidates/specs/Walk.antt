-- What a walk through a set has yet to give.
use Rattle.std.specs.Prelude.{ℕ, ◌*◌, List, filter, nat_le, slice_set}
use Rattle.candidates.specs.declared.cursor.Members.{Members}
use Rattle.candidates.specs.declared.set.CandidateSet.{CandidateSet}
use Rattle.candidates.specs.Members.{members}

-- the set with what is left of the current word
abbrev pub current : Members → CandidateSet
current s = record { words = slice_set s.words s.place s.word }

-- its members from the current word on
unfoldable pub remaining : Members → List ℕ
remaining s = filter (nat_le (64 * s.place)) (members (current s))
