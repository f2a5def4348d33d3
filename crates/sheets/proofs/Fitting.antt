-- What the set of those that fit v leaves of another set.
use Rattle.std.proofs.Common.{◌≡◌, ℕ, List, filter, ◌∙◌}
use Rattle.candidates.specs.declared.set.CandidateSet.{CandidateSet}
use Rattle.candidates.specs.Members.{has, members}
use Rattle.candidates.specs.Sets.{is_in, common}
use Rattle.candidates.proofs.Marks.{is_in-members}
use Rattle.candidates.proofs.Sets.{kept-by-same}
use Rattle.sheets.specs.Meaning.{Meaning}

pub common-fitting : (m : Meaning) (v : ℕ) (f : CandidateSet) (S : List ℕ) → ((k : ℕ) → has f k ≡ m.fit v k) → common S (members f) ≡ filter (m.fit v) S
common-fitting m v f S marks = kept-by-same (λ k. is_in k (members f)) (m.fit v) S (λ k _. is_in-members f k ∙ marks k)
