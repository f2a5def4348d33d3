-- What is found by a search.
use Rattle.std.specs.Prelude.{◌≡◌, ℕ, ◌≤◌, true, List}
use Rattle.candidates.specs.Members.{members}
use Rattle.findings.specs.declared.found.Found.{Found}
use Rattle.findings.specs.Summaries.{asked, nothing, summary, summary_of}
use Rattle.rules.specs.Bounds.{Number}
use Rattle.runs.specs.Calls.{answers}
use Rattle.runs.specs.Promise.{all_nodes, says_finished}
use Rattle.sheets.specs.Cliques.{Clique}
use Rattle.sheets.specs.Heaviest.{FirstHeaviest}
use Rattle.sheets.specs.Meaning.{Meaning}
use Rattle.sheets.specs.Weights.{weight}

-- What was found is what a new search answers that is asked for so many grants of 1,000,000 nodes, its held set and its ceiling. The set is a clique of these points, and no clique outweighs the ceiling. If the search is finished, the set is the first of the heaviest cliques.
pub record Searched (m : Meaning) (number : Number) (grants : ℕ) (found : Found) : Type 0 where
  pub answered : summary_of found ≡ summary nothing (answers m number (asked grants 1000000 256))
  pub nodes : found.nodes ≡ all_nodes (answers m number (asked grants 1000000 256))
  pub finished : found.finished ≡ says_finished (answers m number (asked grants 1000000 256))
  pub clique : Clique m (members found.pairing.set)
  pub weighs : weight m (members found.pairing.set) ≡ found.pairing.points
  pub first : found.finished ≡ true → FirstHeaviest m (members found.pairing.set) found.pairing.points
  pub covers : (K : List ℕ) → Clique m K → weight m K ≤ found.ceiling
