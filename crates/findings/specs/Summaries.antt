-- What is asked of a search, and how the answers are summed up.
use Rattle.std.specs.Prelude.{◌≡◌, ℕ, ◌+◌, Bool, false, cond, ◌||◌, List, [], ◌∷◌, ◌++◌, take, replicate, Some, None, Option, fold, nat_lt}
use Rattle.candidates.specs.Members.{members}
use Rattle.candidates.specs.Sets.{inserted}
use Rattle.findings.specs.declared.found.Found.{Found}
use Rattle.rules.specs.Bounds.{Number}
use Rattle.runs.specs.Calls.{Call, Grant, AskHeld, AskCeiling, Answer, Granted, Taken, Holding, Ceiling, Refused, answers_from}
use Rattle.runs.specs.State.{Held, State}
use Rattle.sheets.specs.Meaning.{Meaning}
use Rattle.sheets.specs.declared.pairing.Pairing.{Pairing}

-- Grants of some nodes each, then the held set, in a buffer with some room, then the ceiling.
unfoldable pub asked : ℕ → ℕ → ℕ → List Call
asked grants nodes room = replicate grants (Grant nodes) ++ AskHeld (replicate room 0) ∷ AskCeiling ∷ []

-- What is known of a search by its answers.
pub record Summary : Type 0 where
  pub set : List ℕ
  pub points : ℕ
  pub ceiling : ℕ
  pub finished : Bool
  pub nodes : ℕ

abbrev pub summary_of : Found → Summary
summary_of f = record { set = members f.pairing.set; points = f.pairing.points; ceiling = f.ceiling; finished = f.finished; nodes = f.nodes }

-- before any answer
abbrev pub nothing : Summary
nothing = record { set = []; points = 0; ceiling = 0; finished = false; nodes = 0 }

-- a list made a set of candidates, entry by entry
abbrev pub collected : List ℕ → List ℕ → List ℕ
collected xs vs = fold (λ ys v. cond (nat_lt v 256) (inserted v ys) ys) xs vs

-- after one more answer
abbrev pub noted : Summary → Answer → Summary
noted s (Granted nodes finished) = record { set = s.set; points = s.points; ceiling = s.ceiling; finished = s.finished || finished; nodes = s.nodes + nodes }
noted s (Taken taken) = s
noted s (Holding count weight buffer) = record { set = collected [] (take count buffer); points = weight; ceiling = s.ceiling; finished = s.finished; nodes = s.nodes }
noted s (Ceiling ceiling) = record { set = s.set; points = s.points; ceiling = ceiling; finished = s.finished; nodes = s.nodes }
noted s (Refused refusal) = s

-- a pairing as a held set and its weight
abbrev pub holding : Pairing → Held
holding p = record { set = members p.set; weight = p.points }

-- what an answer says is held
abbrev pub told : Answer → Option Held
told (Holding count weight buffer) = Some (record { set = collected [] (take count buffer); weight = weight })
told _ = None

-- after all answers
abbrev pub summary : Summary → List Answer → Summary
summary s [] = s
summary s (a ∷ answered) = summary (noted s a) answered

-- after the answers to some more calls on a search in the state t
abbrev pub heard : Meaning → Number → Summary → State → List Call → Summary
heard m number s t calls = summary s (answers_from m number t calls)

-- Calls on a search in the state u lead to s and t: whatever is asked then, all answers together say the same.
abbrev pub Leads : Meaning → Number → State → List Call → Summary → State → Type 0
Leads m number u calls s t = (rest : List Call) → heard m number s t rest ≡ heard m number nothing u (calls ++ rest)
