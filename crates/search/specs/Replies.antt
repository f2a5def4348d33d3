-- What the calls answer, as the definitions have it.
use Rattle.std.specs.Prelude.{ℕ, Bool, List, Ok, Err, Result}
use Rattle.runs.specs.Calls.{Answer, Granted, Taken, Holding, Refused, Reply}
use Rattle.runs.specs.State.{State}
use Rattle.search.specs.Refusals.{grant_refused, offer_refused, held_refused}
use Rattle.search.specs.declared.refusals.GrantRefusal.{GrantRefusal}
use Rattle.search.specs.declared.refusals.OfferRefusal.{OfferRefusal}
use Rattle.search.specs.declared.refusals.HeldRefusal.{HeldRefusal}

-- an answer, and the search after it
abbrev pub replied : Answer → State → Reply
replied answer next = record { answer = answer; next = next }

-- nodes done, and whether the search is finished
abbrev pub grant_answer : Result (ℕ × Bool) GrantRefusal → Answer
grant_answer (Ok r) = Granted r.0 r.1
grant_answer (Err e) = Refused (grant_refused e)

-- whether the offer was taken
abbrev pub offer_answer : Result Bool OfferRefusal → Answer
offer_answer (Ok taken) = Taken taken
offer_answer (Err e) = Refused (offer_refused e)

-- count and weight, with the buffer as it is after the call
abbrev pub held_answer : Result (ℕ × ℕ) HeldRefusal → List ℕ → Answer
held_answer (Ok r) buffer = Holding r.0 r.1 buffer
held_answer (Err e) buffer = Refused (held_refused e buffer)
