-- The cases of a node and of a call: what holds in each of them holds of every node and of every call.
use Rattle.std.proofs.Common.{◌≡◌, ℕ, min, true, ◌&&◌, leb, List, [], ◌∷◌, length, Some, None, Option, refl, arith}
use Rattle.std.proofs.lemmas.Bool.{cond_both}
use Rattle.sheets.specs.Meaning.{Meaning}
use Rattle.sheets.specs.Weights.{weight}
use Rattle.rules.specs.Bounds.{Number}
use Rattle.runs.specs.State.{Frame, frame, Held, State, state, takes, offered, reaches, bound, branch, node_at, node-on, node, ceiling}
use Rattle.runs.specs.Calls.{Call, Grant, Offer, AskHeld, AskCeiling, Refusal, Taken, Holding, Ceiling, Reply, refused, first_no, progress, granted, offer_questions, judged, written, reply}

-- for `cc`, where two constructors would be equal
pub never : {X : Type 0} → ◌≡◌ {A = ℕ} 0 1 → X
never e = absurd (omega arith)

-- P of the search before a node and after it
pub record NodeCases (m : Meaning) (number : Number) (P : State → State → Type 0) : Type 0 where
  pub idle : (held : Option Held) → P (state held []) (state held [])
  pub leaf : (held : Option Held) (C : List ℕ) (mark : ℕ) (below : List Frame) → P (state held (frame C [] mark ∷ below)) (state (offered m held C) below)
  pub prune : (held : Option Held) (C S : List ℕ) (mark : ℕ) (below : List Frame) → reaches held (bound m number C S) ≡ true → P (state held (frame C S mark ∷ below)) (state held below)
  pub branch : (held : Option Held) (C S : List ℕ) (v mark : ℕ) (below : List Frame) → P (state held (frame C (v ∷ S) mark ∷ below)) (state held (branch m C v S (min mark (bound m number C (v ∷ S))) below))

module _ (m : Meaning) (number : Number) (P : State → State → Type 0) (cases : NodeCases m number P) where
  by-frame : (held : Option Held) (C S : List ℕ) (mark : ℕ) (below : List Frame) → P (state held (frame C S mark ∷ below)) (node_at m number held C S mark below)
  by-frame held C [] mark below = cases.leaf held C mark below
  by-frame held C (v ∷ S) mark below =
      cond_both (reaches held (bound m number C (v ∷ S))) below (branch m C v S (min mark (bound m number C (v ∷ S))) below)
      (λ stack. P (state held (frame C (v ∷ S) mark ∷ below)) (state held stack))
      (cases.prune held C (v ∷ S) mark below)
      (λ _. cases.branch held C S v mark below)

  by-stack : (held : Option Held) (stack : List Frame) → P (state held stack) (node-on m number held stack)
  by-stack held [] = cases.idle held
  by-stack held (f ∷ below) = by-frame held f.clique f.rest f.mark below

  pub at-node : (s : State) → P s (node m number s)
  at-node s = by-stack s.held s.stack

-- P of a call made in s, and of its reply
pub record CallCases (m : Meaning) (number : Number) (s : State) (P : Call → Reply → Type 0) : Type 0 where
  pub refusal : (call : Call) (r : Refusal) → P call (refused s r)
  pub grant : (k : ℕ) → P (Grant k) (granted (progress m number k s))
  pub offer : (list : List ℕ) → first_no (offer_questions m [] 0 list) ≡ None → P (Offer list) (record { answer = Taken (takes s.held (weight m list)); next = state (offered m s.held list) s.stack })
  pub held : (buffer : List ℕ) (count w : ℕ) (then : List ℕ) → P (AskHeld buffer) (record { answer = Holding count w then; next = s })
  pub ceil : P AskCeiling (record { answer = Ceiling (ceiling s); next = s })

module _ (m : Meaning) (number : Number) (s : State) (P : Call → Reply → Type 0) (cases : CallCases m number s P) where
  by-judgement : (list : List ℕ) (o : Option Refusal) → first_no (offer_questions m [] 0 list) ≡ o → P (Offer list) (judged m s list o)
  by-judgement list None e = cases.offer list e
  by-judgement list (Some r) e = cases.refusal (Offer list) r

  by-held : (held : Option Held) (buffer : List ℕ) → P (AskHeld buffer) (record { answer = written held buffer; next = s })
  by-held None buffer = cases.refusal (AskHeld buffer) _
  by-held (Some h) buffer =
      cond_both (leb (length h.set) (length buffer)) _ _ (λ a. P (AskHeld buffer) (record { answer = a; next = s }))
      (λ _. cases.held buffer _ _ _)
      (λ _. cases.refusal (AskHeld buffer) _)

  pub at_call : (call : Call) → P call (reply m number s call)
  at_call (Grant k) = cond_both (leb 1 k && leb k 1000000) _ _ (P (Grant k)) (λ _. cases.grant k) (λ _. cases.refusal (Grant k) _)
  at_call (Offer list) = by-judgement list (first_no (offer_questions m [] 0 list)) refl
  at_call (AskHeld buffer) = by-held s.held buffer
  at_call AskCeiling = cases.ceil

-- the search after calls one after another
abbrev pub after : Meaning → Number → State → List Call → State
after m number s [] = s
after m number s (call ∷ calls) = after m number (reply m number s call).next calls
