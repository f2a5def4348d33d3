-- The members of a candidate set, as an ascending list of numbers. No reader above this crate sees a word or a bit.
use Rattle.std.specs.Prelude.{ℕ, ◌/◌, ◌%◌, ◌^◌, Bool, ◌&&◌, List, filter, ◌==◌, nat_lt, slice_index}
use Rattle.candidates.specs.declared.set.CandidateSet.{CandidateSet}
use Rattle.candidates.specs.Sets.{counting}

-- mark k of one word
unfoldable pub bit : ℕ → ℕ → Bool
bit w k = w / 2 ^ k % 2 == 1

-- whether k is a member; no number from 256 on is
unfoldable pub has : CandidateSet → ℕ → Bool
has s k = nat_lt k 256 && bit (slice_index s.words (k / 64)) (k % 64)

-- the members, upwards
unfoldable pub members : CandidateSet → List ℕ
members s = filter (has s) (counting 0 256)
