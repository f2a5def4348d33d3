-- What a search holds, as the definitions have it.
use Rattle.std.specs.Prelude.{ℕ, Option}
use Rattle.std.specs.Option.{option_map}
use Rattle.candidates.specs.declared.set.CandidateSet.{CandidateSet}
use Rattle.candidates.specs.Members.{members}
use Rattle.runs.specs.State.{Held}
use Rattle.sheets.specs.declared.pairing.Pairing.{Pairing}

-- a set of this weight, if there is one
abbrev pub held_by : CandidateSet → Option ℕ → Option Held
held_by marks weight = option_map (λ w. record { set = members marks; weight = w }) weight

-- a set and its points, if there is one
abbrev pub held_of : Option Pairing → Option Held
held_of held = option_map (λ p. record { set = members p.set; weight = p.points }) held
