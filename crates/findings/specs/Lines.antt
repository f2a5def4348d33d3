-- What is printed of a set and of what a search found.
use Rattle.std.specs.Prelude.{ℕ, Bool, true, false, List, [], ◌∷◌, ◌++◌, codes, decimal}
use Rattle.candidates.specs.Members.{members}
use Rattle.findings.specs.declared.found.Found.{Found}

-- Each number after a blank.
abbrev pub listed : List ℕ → List ℕ
listed [] = []
listed (v ∷ vs) = (codes " " ++ decimal v) ++ listed vs

abbrev pub yes_or_no : Bool → List ℕ
yes_or_no true = codes "yes"
yes_or_no false = codes "no"

-- The set that a search found, its points and the ceiling, and how far it came, a line for each.
abbrev pub found_lines : Found → List ℕ
found_lines f = codes "search" ++ (listed (members f.pairing.set) ++ (codes "\nsearch points " ++ (decimal f.pairing.points ++ (codes " ceiling " ++ (decimal f.ceiling ++ (codes "\nfinished " ++ (yes_or_no f.finished ++ (codes " nodes " ++ decimal f.nodes))))))))
