-- When a strike or a restore is refused. The struck set is an ascending list.
use Rattle.std.specs.Prelude.{ℕ, not, List, [], ◌∷◌, Result, nat_lt}
use Rattle.candidates.specs.Sets.{is_in}
use Rattle.sheets.specs.Refusals.{first_no}
use Rattle.striking.specs.declared.fault.StrikeFault.{StrikeFault}
use Rattle.striking.specs.declared.fault.StrikeFault.TheVariants.{Outside, AlreadyStruck, NotStruck}

-- v below n? Not struck?
abbrev pub strike_judged : ℕ → List ℕ → ℕ → Result (Unit {0}) StrikeFault
strike_judged n set v = first_no ((nat_lt v n, Outside) ∷ (not (is_in v set), AlreadyStruck) ∷ [])

-- v below n? Struck?
abbrev pub restore_judged : ℕ → List ℕ → ℕ → Result (Unit {0}) StrikeFault
restore_judged n set v = first_no ((nat_lt v n, Outside) ∷ (is_in v set, NotStruck) ∷ [])

abbrev pub number_of : StrikeFault → ℕ
number_of Outside = 21
number_of AlreadyStruck = 22
number_of NotStruck = 23
