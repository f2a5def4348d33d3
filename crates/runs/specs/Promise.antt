-- What a search promises of every list of calls, said of what was asked and answered.
use Rattle.std.specs.Prelude.{◌≡◌, ℕ, suc, ◌+◌, ◌^◌, ◌<◌, ◌≤◌, Bool, true, false, ◌||◌, ◌⊎◌, List, [], ◌∷◌, ◌++◌, length, drop}
use Rattle.sheets.specs.Meaning.{Meaning}
use Rattle.sheets.specs.Weights.{weight}
use Rattle.sheets.specs.Cliques.{Clique}
use Rattle.sheets.specs.Heaviest.{FirstHeaviest}
use Rattle.rules.specs.Bounds.{Number, Bounds}
use Rattle.runs.specs.State.{Held}
use Rattle.runs.specs.Calls.{Call, Grant, Offer, AskHeld, AskCeiling, Answer, Granted, Taken, Holding, Ceiling, Refused, NoneHeld, answers}

-- One of the calls was this one, and it was answered so.
abbrev pub Was : Call → Answer → List Call → List Answer → Type 0
Was call answer [] answered = ⊥
Was call answer (c ∷ asked) [] = ⊥
Was call answer (c ∷ asked) (a ∷ answered) = ((c ≡ call) × (a ≡ answer)) ⊎ Was call answer asked answered

-- An accepted grant was answered that the search is finished.
abbrev pub is_finished : Answer → Bool
is_finished (Granted nodes finished) = finished
is_finished (Taken taken) = false
is_finished (Holding count weight buffer) = false
is_finished (Ceiling ceiling) = false
is_finished (Refused refusal) = false

abbrev pub says_finished : List Answer → Bool
says_finished [] = false
says_finished (a ∷ answered) = is_finished a || says_finished answered

-- The nodes done that the accepted grants were answered, added up.
abbrev pub nodes_of : Answer → ℕ
nodes_of (Granted nodes finished) = nodes
nodes_of (Taken taken) = 0
nodes_of (Holding count weight buffer) = 0
nodes_of (Ceiling ceiling) = 0
nodes_of (Refused refusal) = 0

abbrev pub all_nodes : List Answer → ℕ
all_nodes [] = 0
all_nodes (a ∷ answered) = nodes_of a + all_nodes answered

-- The nodes that were granted, added up over the accepted grants.
abbrev pub asks_nodes : Call → ℕ
asks_nodes (Grant k) = k
asks_nodes (Offer list) = 0
asks_nodes (AskHeld buffer) = 0
asks_nodes AskCeiling = 0

abbrev pub grant_of : Call → Answer → ℕ
grant_of call (Granted nodes finished) = asks_nodes call
grant_of call (Taken taken) = 0
grant_of call (Holding count weight buffer) = 0
grant_of call (Ceiling ceiling) = 0
grant_of call (Refused refusal) = 0

abbrev pub all_grants : List Call → List Answer → ℕ
all_grants [] answered = 0
all_grants (c ∷ asked) [] = 0
all_grants (c ∷ asked) (a ∷ answered) = grant_of c a + all_grants asked answered

-- After the calls asked, one more call is answered so, and the answers before it are the same.
abbrev pub Answered : Meaning → Number → List Call → Call → Answer → Type 0
Answered m number asked call answer = answers m number (asked ++ call ∷ []) ≡ answers m number asked ++ answer ∷ []

-- After the calls asked, h is held: the question for the held set writes its members into the front of any buffer that is long enough, and answers their count and weight.
abbrev pub HeldAfter : Meaning → Number → List Call → Held → Type 0
HeldAfter m number asked h = (buffer : List ℕ) → length h.set ≤ length buffer → Answered m number asked (AskHeld buffer) (Holding (length h.set) h.weight (h.set ++ drop (length h.set) buffer))

-- After the calls asked, none is held: the question for the held set is refused whatever the buffer, which stays as it was.
abbrev pub NoneAfter : Meaning → Number → List Call → Type 0
NoneAfter m number asked = (buffer : List ℕ) → Answered m number asked (AskHeld buffer) (Refused (NoneHeld buffer))

-- After the calls asked, a set is held that weighs at least w.
pub record HoldsAfter (m : Meaning) (number : Number) (asked : List Call) (w : ℕ) : Type 0 where
  pub held : Held
  pub is : HeldAfter m number asked held
  pub least : w ≤ held.weight

-- After the calls asked, c is the ceiling: the question for it answers c.
abbrev pub CeilingAfter : Meaning → Number → List Call → ℕ → Type 0
CeilingAfter m number asked c = Answered m number asked AskCeiling (Ceiling c)

-- The search has said finished and holds h, and no offer that it took was as heavy.
pub record Ends (m : Meaning) (number : Number) (asked : List Call) (h : Held) : Type 0 where
  pub finished : says_finished (answers m number asked) ≡ true
  pub holds : HeldAfter m number asked h
  pub lighter : (list : List ℕ) → Was (Offer list) (Taken true) asked (answers m number asked) → weight m list < h.weight

-- Two sheets answer alike: their meanings are equal.
pub record Alike (m n : Meaning) : Type 0 where
  pub size : m.size ≡ n.size
  pub fit : (u v : ℕ) → m.fit u v ≡ n.fit u v
  pub points : (u v : ℕ) → m.points u v ≡ n.points u v

-- In what follows `asked` and `more` are any lists of calls on a new search.

-- A set is held or none is. If one is, it is a clique of the weight that is answered. It is at least as heavy as every accepted offer, and never lighter than before.
pub record HeldPromise (m : Meaning) (number : Number) : Type 0 where
  pub known : (asked : List Call) → ((h : Held) × HeldAfter m number asked h) ⊎ NoneAfter m number asked
  pub clique : (asked : List Call) (h : Held) → HeldAfter m number asked h → Clique m h.set
  pub weighs : (asked : List Call) (h : Held) → HeldAfter m number asked h → weight m h.set ≡ h.weight
  pub offers : (asked : List Call) (list : List ℕ) (taken : Bool) → Was (Offer list) (Taken taken) asked (answers m number asked) → HoldsAfter m number asked (weight m list)
  pub rises : (asked more : List Call) (w : ℕ) → HoldsAfter m number asked w → HoldsAfter m number (asked ++ more) w

-- The ceiling is always answered, no clique outweighs it, and it never rises.
pub record CeilingPromise (m : Meaning) (number : Number) : Type 0 where
  pub known : (asked : List Call) → (c : ℕ) × CeilingAfter m number asked c
  pub covers : (asked : List Call) (c : ℕ) → CeilingAfter m number asked c → (K : List ℕ) → Clique m K → weight m K ≤ c
  pub falls : (asked more : List Call) (c d : ℕ) → CeilingAfter m number asked c → CeilingAfter m number (asked ++ more) d → d ≤ c

-- Once finished is said, a set is held that no clique outweighs. If no offer that was taken is as heavy, it is earlier than every other clique of its weight.
pub record FinishedPromise (m : Meaning) (number : Number) : Type 0 where
  pub heaviest : (asked : List Call) → says_finished (answers m number asked) ≡ true → (h : Held) × HeldAfter m number asked h × ((K : List ℕ) → Clique m K → weight m K ≤ h.weight)
  pub first : (asked : List Call) (h : Held) → Ends m number asked h → FirstHeaviest m h.set h.weight

-- The nodes done are fewer than 2 ^ (n + 1), and until finished is said they are all that was granted.
pub record NodesPromise (m : Meaning) (number : Number) : Type 0 where
  pub limit : (asked : List Call) → all_nodes (answers m number asked) < 2 ^ suc m.size
  pub granted : (asked : List Call) → says_finished (answers m number asked) ≡ false → all_nodes (answers m number asked) ≡ all_grants asked (answers m number asked)

-- What a search over a sheet of meaning m, under a rule with these numbers, promises.
pub record Promise (m : Meaning) (number : Number) : Type 0 where
  pub held : HeldPromise m number
  pub ceiling : CeilingPromise m number
  pub finished : FinishedPromise m number
  -- over a sheet that answers alike, under any rule, all calls that end so lead to the same set
  pub alike : (n : Meaning) → Alike m n → (other : Number) → Bounds other → (asked others : List Call) (h g : Held) → Ends m number asked h → Ends n other others g → h ≡ g
  pub nodes : NodesPromise m number
