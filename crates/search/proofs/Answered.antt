-- Calls answered one after another: what is left gives the whole.
use Rattle.std.proofs.Common.{ℕ, List, ◌++◌, map, drop}
use Rattle.rules.specs.Bounds.{Number}
use Rattle.runs.specs.Calls as calls
use Rattle.runs.specs.State.{State}
use Rattle.search.specs.declared.calls.Answer.{Answer}
use Rattle.search.specs.declared.calls.Call.{Call}
use Rattle.search.specs.Replay.{answer_of, call_of}
use Rattle.sheets.specs.Meaning.{Meaning}

module _ (m : Meaning) (number : Number) (asked : List Call) where
  -- the answers so far, and those that are to come
  abbrev pub answered : List Answer → State → ℕ → List calls.Answer
  answered done s i = map answer_of done ++ calls.answers_from m number s (map call_of (drop i asked))
