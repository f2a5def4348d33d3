-- A house worked out: two meters on one collector, two flats on one riser, and every pairing of them.
use Rattle.std.specs.Prelude.{◌≡◌, List, [], ◌∷◌, Ok}
use Rattle.sheets.specs.Meaning.{Meaning}
use Rattle.sheets.specs.Weights.{weight}
use Rattle.evidence.specs.declared.records.Meter.{Meter}
use Rattle.evidence.specs.declared.records.Flat.{Flat}
use Rattle.evidence.specs.declared.records.Candidate.{Candidate}
use Rattle.evidence.specs.Evidence.{evidence}
use Rattle.evidence.specs.Judged.{evidence_judged}

abbrev pub house_meters : List Meter
house_meters = record { serial = 1001; collector = 7 } ∷ record { serial = 1002; collector = 7 } ∷ []

abbrev pub house_flats : List Flat
house_flats = record { riser = 2; floor = 0 } ∷ record { riser = 2; floor = 1 } ∷ []

abbrev pub house_candidates : List Candidate
house_candidates = record { meter = 0; flat = 0 } ∷ record { meter = 0; flat = 1 } ∷ record { meter = 1; flat = 0 } ∷ record { meter = 1; flat = 1 } ∷ []

abbrev pub house : Meaning
house = evidence house_meters house_flats house_candidates

-- The pairing by which the higher serial has the higher floor outweighs its rival.
pub record Worked : Type 0 where
  pub accepted : evidence_judged house_meters house_flats house_candidates ≡ Ok tt
  pub first : weight house (0 ∷ 3 ∷ []) ≡ 51
  pub rival : weight house (1 ∷ 2 ∷ []) ≡ 40
