-- What the answers to one more call tell of the search.
use Rattle.std.proofs.Common.{◌≡◌, ℕ, ◌≤◌, leb, ◌⊎◌, List, [], ◌∷◌, ◌++◌, length, take, drop, Some, None, Option, sym, refl, ap, ◌∙◌, inl, inr, arith}
use Rattle.std.proofs.lemmas.List.{append_cancel_left, take_at}
use Rattle.std.proofs.lemmas.Bool.{cond_both, cond-true, le-leb}
use Rattle.sheets.specs.Meaning.{Meaning}
use Rattle.rules.specs.Bounds.{Number}
use Rattle.runs.specs.State.{Held, State, start, ceiling}
use Rattle.runs.specs.Calls.{Call, AskHeld, AskCeiling, Answer, Holding, Ceiling, Refused, NoneHeld, TooShort, written, reply, answers}
use Rattle.runs.specs.Promise.{Answered, HeldAfter, NoneAfter, HoldsAfter, CeilingAfter}
use Rattle.runs.proofs.Cases.{never, after}
use Rattle.runs.proofs.Holding.{Holds}
use Rattle.runs.proofs.Runs.{answers_push}

-- what is written where h is held and the buffer is long enough
abbrev holding : Held → List ℕ → Answer
holding h buffer = Holding (length h.set) h.weight (h.set ++ drop (length h.set) buffer)

written_held : (h : Held) (buffer : List ℕ) → length h.set ≤ length buffer → written (Some h) buffer ≡ holding h buffer
written_held h buffer room = cond-true (leb (length h.set) (length buffer)) (holding h buffer) (Refused (TooShort buffer)) (le-leb (length h.set) (length buffer) room)

holding-same : (g h : Held) (buffer : List ℕ) → holding g buffer ≡ holding h buffer → g ≡ h
holding-same g h buffer e =
    let count : length g.set ≡ length h.set = cc in
    let same : g.set ++ drop (length g.set) buffer ≡ h.set ++ drop (length h.set) buffer = cc in
    let heavy : g.weight ≡ h.weight = cc in
    let set = sym (take_at g.set (drop (length g.set) buffer) (length g.set) refl) ∙ ap (take (length g.set)) same ∙ take_at h.set (drop (length h.set) buffer) (length g.set) (sym count) in
    λ i. record { set = set i; weight = heavy i }

-- what is written tells what is held
held-written : (held : Option Held) (h : Held) (buffer : List ℕ) → written held buffer ≡ holding h buffer → held ≡ Some h
held-written None h buffer = λ e. never (cc)
held-written (Some g) h buffer =
    cond_both (leb (length g.set) (length buffer)) (holding g buffer) (Refused (TooShort buffer)) (λ a. a ≡ holding h buffer → Some g ≡ Some h)
    (λ _ e. ap Some (holding-same g h buffer e))
    (λ _ e. never (cc))

module _ (m : Meaning) (number : Number) where
  -- the search after these calls
  abbrev pub then : List Call → State
  then asked = after m number (start m) asked

  pub answer-told : (asked : List Call) (call : Call) (a : Answer) → (reply m number (then asked) call).answer ≡ a → Answered m number asked call a
  answer-told asked call a e = answers_push m number (start m) asked call ∙ ap (λ a. answers m number asked ++ a ∷ []) e

  answer-from-told : (asked : List Call) (call : Call) (a : Answer) → Answered m number asked call a → (reply m number (then asked) call).answer ≡ a
  answer-from-told asked call a e =
      let same = append_cancel_left (answers m number asked) _ _ (sym (answers_push m number (start m) asked call) ∙ e) in
      cc

  pub held-told : (asked : List Call) (h : Held) → (then asked).held ≡ Some h → HeldAfter m number asked h
  held-told asked h is buffer room = answer-told asked (AskHeld buffer) (holding h buffer) (ap (λ o. written o buffer) is ∙ written_held h buffer room)

  pub held-from-told : (asked : List Call) (h : Held) → HeldAfter m number asked h → (then asked).held ≡ Some h
  held-from-told asked h after = held-written (then asked).held h h.set (answer-from-told asked (AskHeld h.set) (holding h h.set) (after h.set (omega arith)))

  pub ceiling-from-told : (asked : List Call) (c : ℕ) → CeilingAfter m number asked c → ceiling (then asked) ≡ c
  ceiling-from-told asked c after = let is = answer-from-told asked AskCeiling (Ceiling c) after in cc

  pub either-told : (asked : List Call) (held : Option Held) → (then asked).held ≡ held → ((h : Held) × HeldAfter m number asked h) ⊎ NoneAfter m number asked
  either-told asked None is = inr (λ buffer. answer-told asked (AskHeld buffer) (Refused (NoneHeld buffer)) (ap (λ o. written o buffer) is))
  either-told asked (Some h) is = inl (h, held-told asked h is)

  pub holds-told : (asked : List Call) (w : ℕ) (held : Option Held) → (then asked).held ≡ held → Holds held w → HoldsAfter m number asked w
  holds-told asked w None is h = absurd h
  holds-told asked w (Some g) is h = record { held = g; is = held-told asked g is; least = h }

  pub holds-from-told : (asked : List Call) (w : ℕ) → HoldsAfter m number asked w → Holds (then asked).held w
  holds-from-told asked w h = rw (held-from-told asked h.held h.is) h.least
