-- The calls of a search, what each is answered, and what it does to the search.
use Rattle.std.specs.Prelude.{ℕ, zero, suc, Bool, cond, ◌&&◌, List, [], ◌∷◌, ◌++◌, length, drop, Some, None, Option, nat_le, nat_lt}
use Rattle.std.specs.List.{prefix_len}
use Rattle.sheets.specs.Meaning.{Meaning}
use Rattle.sheets.specs.Weights.{weight}
use Rattle.sheets.specs.Cliques.{fits_all}
use Rattle.rules.specs.Bounds.{Number}
use Rattle.runs.specs.State.{Held, State, state, start, finished, takes, offered, node, ceiling}

-- What may be asked of a search: a number of nodes (a node budget), a list of candidates to be held, the held set to be written into a buffer, and the ceiling.
pub data Call : Type 0 where
  Grant : (nodes : ℕ) → Call
  Offer : (list : List ℕ) → Call
  AskHeld : (buffer : List ℕ) → Call
  AskCeiling : Call

-- The first question that was answered no, with the places that it names. A buffer stands here as it is after the call.
pub data Refusal : Type 0 where
  GrantOutOfRange : Refusal
  NotBelow : (place : ℕ) → Refusal
  NotAbove : (place : ℕ) → Refusal
  NotFitting : (place : ℕ) (earlier : ℕ) → Refusal
  NoneHeld : (buffer : List ℕ) → Refusal
  TooShort : (buffer : List ℕ) → Refusal

-- the number of a refusal
abbrev pub refusal_number : Refusal → ℕ
refusal_number GrantOutOfRange = 31
refusal_number (NotBelow place) = 32
refusal_number (NotAbove place) = 33
refusal_number (NotFitting place earlier) = 34
refusal_number (NoneHeld buffer) = 35
refusal_number (TooShort buffer) = 36

-- What a call is answered: the nodes done and whether the search is finished; whether the offer was taken; count and weight of the held set, with the buffer as it is then; the ceiling; or a refusal.
pub data Answer : Type 0 where
  Granted : (nodes : ℕ) (finished : Bool) → Answer
  Taken : (taken : Bool) → Answer
  Holding : (count : ℕ) (weight : ℕ) (buffer : List ℕ) → Answer
  Ceiling : (ceiling : ℕ) → Answer
  Refused : (refusal : Refusal) → Answer

-- The answer to a call, and the search after it.
pub record Reply : Type 0 where
  pub answer : Answer
  pub next : State

-- A refusal leaves the search as it was.
abbrev pub refused : State → Refusal → Reply
refused s r = record { answer = Refused r; next = s }

-- A question put to the input: whether it is answered yes, and the refusal if it is not.
pub record Question : Type 0 where
  pub yes : Bool
  pub no : Refusal

-- the first no decides
abbrev pub first_no : List Question → Option Refusal
first_no [] = None
first_no (q ∷ qs) = cond q.yes (first_no qs) (Some q.no)

-- How many nodes were done, and the search after them.
pub record Progress : Type 0 where
  pub nodes : ℕ
  pub reached : State

-- no node is done
abbrev pub stopped : State → Progress
stopped s = record { nodes = 0; reached = s }

-- one node more was done before
abbrev pub further : Progress → Progress
further p = record { nodes = suc p.nodes; reached = p.reached }

-- Nodes until k are done or the search is finished. (The `let` waits, so that nodes that are not done are not computed.)
abbrev pub progress : Meaning → Number → ℕ → State → Progress
progress m number zero s = stopped s
progress m number (suc k) s = let more = further (progress m number k (node m number s)) in cond (finished s) (stopped s) more

abbrev pub granted : Progress → Reply
granted p = record { answer = Granted p.nodes (finished p.reached); next = p.reached }

-- Grant: from 1 to 1,000,000 nodes.
abbrev pub grant : Meaning → Number → State → ℕ → Reply
grant m number s k = cond (nat_le 1 k && nat_le k 1000000) (granted (progress m number k s)) (refused s GrantOutOfRange)

-- Put to the entry v of an offer: is it below n, is it above the one before (at least `least`, which is one more), and does it fit all before?
abbrev pub entry_questions : Meaning → List ℕ → ℕ → ℕ → List Question
entry_questions m before least v =
    record { yes = nat_lt v m.size; no = NotBelow (length before) }
    ∷ record { yes = nat_le least v; no = NotAbove (length before) }
    ∷ record { yes = fits_all m v before; no = NotFitting (length before) (prefix_len (m.fit v) before) }
    ∷ []

-- put to an offer, entry by entry
abbrev pub offer_questions : Meaning → List ℕ → ℕ → List ℕ → List Question
offer_questions m before least [] = []
offer_questions m before least (v ∷ vs) = entry_questions m before least v ++ offer_questions m (before ++ v ∷ []) (suc v) vs

-- An accepted offer becomes the held set if none is held or it is heavier.
abbrev pub judged : Meaning → State → List ℕ → Option Refusal → Reply
judged m s list None = record { answer = Taken (takes s.held (weight m list)); next = state (offered m s.held list) s.stack }
judged m s list (Some r) = refused s r

-- Offer: the first no decides.
abbrev pub offer : Meaning → State → List ℕ → Reply
offer m s list = judged m s list (first_no (offer_questions m [] 0 list))

-- Held: its members are written upwards into the front of the buffer; later entries are not written.
abbrev pub written : Option Held → List ℕ → Answer
written None buffer = Refused (NoneHeld buffer)
written (Some h) buffer =
    cond (nat_le (length h.set) (length buffer))
    (Holding (length h.set) h.weight (h.set ++ drop (length h.set) buffer))
    (Refused (TooShort buffer))

-- One call.
abbrev pub reply : Meaning → Number → State → Call → Reply
reply m number s (Grant k) = grant m number s k
reply m number s (Offer list) = offer m s list
reply m number s (AskHeld buffer) = record { answer = written s.held buffer; next = s }
reply m number s AskCeiling = record { answer = Ceiling (ceiling s); next = s }

-- What calls are answered one after another.
abbrev pub answers_from : Meaning → Number → State → List Call → List Answer
answers_from m number s [] = []
answers_from m number s (call ∷ calls) = (reply m number s call).answer ∷ answers_from m number (reply m number s call).next calls

-- What calls on a new search are answered.
abbrev pub answers : Meaning → Number → List Call → List Answer
answers m number calls = answers_from m number (start m) calls
