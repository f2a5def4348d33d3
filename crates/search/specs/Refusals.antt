-- The refusals of the calls, as the definitions have them.
use Rattle.std.specs.Prelude.{ℕ, List}
use Rattle.runs.specs.Calls as calls
use Rattle.search.specs.declared.refusals.GrantRefusal.{GrantRefusal}
use Rattle.search.specs.declared.refusals.GrantRefusal.TheVariants.{OutOfRange}
use Rattle.search.specs.declared.refusals.OfferRefusal.{OfferRefusal}
use Rattle.search.specs.declared.refusals.OfferRefusal.TheVariants.{NotBelow, NotAbove, NotFitting}
use Rattle.search.specs.declared.refusals.HeldRefusal.{HeldRefusal}
use Rattle.search.specs.declared.refusals.HeldRefusal.TheVariants.{NoneHeld, TooShort}

abbrev pub grant_refused : GrantRefusal → calls.Refusal
grant_refused OutOfRange = calls.GrantOutOfRange

abbrev pub offer_refused : OfferRefusal → calls.Refusal
offer_refused (NotBelow place) = calls.NotBelow place
offer_refused (NotAbove place) = calls.NotAbove place
offer_refused (NotFitting place earlier) = calls.NotFitting place earlier

-- with the buffer as it is after the call
abbrev pub held_refused : HeldRefusal → List ℕ → calls.Refusal
held_refused NoneHeld buffer = calls.NoneHeld buffer
held_refused TooShort buffer = calls.TooShort buffer
