-- The state of a search, and what no call changes.
use Rattle.std.specs.Prelude.{◌≡◌}
use Rattle.runs.specs.State.{State}
use Rattle.search.specs.declared.search.Search.{Search}

abbrev pub state_of : {S R : Type 0} → Search S R → State
state_of s = s.core

-- the sheet and the rule are the same before and after
abbrev pub Kept : {S R : Type 0} → Search S R → Search S R → Type 0
Kept before after = (after.sheet ≡ before.sheet) × (after.rule ≡ before.rule)
