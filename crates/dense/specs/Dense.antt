-- What rows of fitting candidates and a square of points mean.
use Rattle.std.specs.Prelude.{ℕ, ◌+◌, ◌*◌, cond, ◌&&◌, List, [], nat_lt, slice_index, slice_index_or}
use Rattle.candidates.specs.declared.set.CandidateSet.{CandidateSet}
use Rattle.candidates.specs.Members.{has}
use Rattle.sheets.specs.Meaning.{Meaning}

-- row u, empty past the end
abbrev pub row : List CandidateSet → ℕ → CandidateSet
row rows u = slice_index_or rows u (record { words = [] })

-- Row u holds those that fit u, and the points of u and v stand at 256 u + v; no number from 256 on fits or earns anything.
abbrev pub meaning_by : ℕ → List CandidateSet → List ℕ → Meaning
meaning_by size rows points = record {
  size = size;
  fit = λ u v. nat_lt u 256 && has (row rows u) v;
  points = λ u v. cond (nat_lt u 256 && nat_lt v 256) (slice_index points (256 * u + v)) 0;
}
