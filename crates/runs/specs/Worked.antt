-- Cases that can be worked by hand, stated together.
use Rattle.std.specs.Prelude.{◌≡◌, ℕ, true, false, List, [], ◌∷◌, ◌++◌}
use Rattle.rules.specs.Colour.{colour}
use Rattle.rules.specs.Numbers.{Worked, small}
use Rattle.runs.specs.Calls.{Call, Grant, Offer, AskHeld, AskCeiling, Answer, Granted, Taken, Holding, Ceiling, Refused, NotFitting, NoneHeld, answers}
use Rattle.sheets.specs.Meaning.{Meaning}
use Rattle.sheets.specs.Tables.{table}

-- a buffer whose entries show where they are not written
abbrev buffer : List ℕ
buffer = 9 ∷ 9 ∷ 9 ∷ 9 ∷ []

-- what a search under the colour rule answers
abbrev asked : Meaning → List Call → List Answer
asked m calls = answers m colour calls

-- the set and weight of a search that was granted enough, after some calls before
abbrev ends : List Answer → Answer → Type 0
ends [] answer = ⊥
ends (a ∷ []) answer = a ≡ answer
ends (a ∷ b ∷ rest) answer = ends (b ∷ rest) answer

abbrev Found : ℕ → List ℕ → List Call → Answer → Type 0
Found n entries first answer = ends (asked (table n entries) (first ++ (Grant 1000 ∷ AskHeld buffer ∷ []))) answer

pub record WorkedCases : Type 0 where
  -- the numbers of the rules for the small sheet
  pub numbers : Worked
  -- grants of 3 and 10 on the small sheet, with the ceiling before, between and after
  pub granted : asked small (AskCeiling ∷ Grant 3 ∷ AskHeld buffer ∷ AskCeiling ∷ Grant 10 ∷ AskHeld buffer ∷ AskCeiling ∷ []) ≡ Ceiling 26 ∷ Granted 3 false ∷ Refused (NoneHeld buffer) ∷ Ceiling 15 ∷ Granted 4 true ∷ Holding 3 15 (0 ∷ 1 ∷ 3 ∷ 9 ∷ []) ∷ Ceiling 15 ∷ []
  -- an offer that is taken, and one in which 2 does not fit 1
  pub offered : asked small (Offer (0 ∷ 2 ∷ 3 ∷ []) ∷ AskHeld buffer ∷ Offer (0 ∷ 1 ∷ 2 ∷ []) ∷ []) ≡ Taken true ∷ Holding 3 12 (0 ∷ 2 ∷ 3 ∷ 9 ∷ []) ∷ Refused (NotFitting 2 1) ∷ []
  -- of two sets of equal weight the earlier is found, unless the other was offered: then one node shows that it stands
  pub earlier : Found 3 (65535 ∷ 6 ∷ 6 ∷ []) [] (Holding 2 6 (0 ∷ 2 ∷ 9 ∷ 9 ∷ []))
  pub stands : asked (table 3 (65535 ∷ 6 ∷ 6 ∷ [])) (Offer (1 ∷ 2 ∷ []) ∷ Grant 1000 ∷ AskHeld buffer ∷ []) ≡ Taken true ∷ Granted 1 true ∷ Holding 2 6 (1 ∷ 2 ∷ 9 ∷ 9 ∷ []) ∷ []
  -- points of 0 are points
  pub fit : Found 2 (0 ∷ []) [] (Holding 2 0 (0 ∷ 1 ∷ 9 ∷ 9 ∷ []))
  pub apart : Found 2 (65535 ∷ []) [] (Holding 1 0 (0 ∷ 9 ∷ 9 ∷ 9 ∷ []))
  -- one candidate takes three nodes
  pub alone : asked (table 1 []) (Grant 1000 ∷ AskHeld buffer ∷ []) ≡ Granted 3 true ∷ Holding 1 0 (0 ∷ 9 ∷ 9 ∷ 9 ∷ []) ∷ []
