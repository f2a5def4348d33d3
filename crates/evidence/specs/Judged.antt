-- When evidence is refused: every question put to it, in order.
use Rattle.std.specs.Prelude.{ℕ, ◌-◌, Bool, ◌&&◌, List, ◌∷◌, ◌++◌, map, length, Result, nat_le, nat_lt}
use Rattle.candidates.specs.Sets.{counting}
use Rattle.sheets.specs.Refusals.{first_no}
use Rattle.evidence.specs.declared.records.Meter.{Meter}
use Rattle.evidence.specs.declared.records.Flat.{Flat}
use Rattle.evidence.specs.declared.records.Candidate.{Candidate}
use Rattle.evidence.specs.Evidence.{meter_at, candidate_at}
use Rattle.evidence.specs.declared.fault.EvidenceFault.{EvidenceFault}
use Rattle.evidence.specs.declared.fault.EvidenceFault.TheVariants.{Candidates, Serial, Place}

-- A question is put at each place from a on that is below b.
abbrev pub asked : {Fault : Type 0} → (ℕ → Bool × Fault) → ℕ → ℕ → List (Bool × Fault)
asked question a b = map question (counting a (b - a))

-- Is the serial at k above the one before?
abbrev pub serial_above : List Meter → ℕ → Bool × EvidenceFault
serial_above ms k = (nat_lt (meter_at ms (k - 1)).serial (meter_at ms k).serial, Serial k)

-- Does candidate k name places within both lists, of so many meters and flats?
abbrev pub places_within : ℕ → ℕ → List Candidate → ℕ → Bool × EvidenceFault
places_within meters flats cs k = ((nat_lt (candidate_at cs k).meter meters && nat_lt (candidate_at cs k).flat flats), Place k)

-- The first meter has none before it.
abbrev pub serials : List Meter → List (Bool × EvidenceFault)
serials ms = asked (serial_above ms) 1 (length ms)

abbrev pub places : ℕ → ℕ → List Candidate → List (Bool × EvidenceFault)
places meters flats cs = asked (places_within meters flats cs) 0 (length cs)

-- 1 to 256 candidates? Each serial above the one before? Does each candidate name places within both lists?
abbrev pub evidence_judged : List Meter → List Flat → List Candidate → Result (Unit {0}) EvidenceFault
evidence_judged ms fs cs = first_no (((nat_le 1 (length cs) && nat_le (length cs) 256), Candidates) ∷ (serials ms ++ places (length ms) (length fs) cs))

abbrev pub number_of : EvidenceFault → ℕ
number_of Candidates = 1
number_of (Serial _) = 3
number_of (Place _) = 4
