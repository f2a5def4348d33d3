-- What evidence means as a sheet: which two candidates fit, and what they earn.
use Rattle.std.specs.Prelude.{ℕ, ◌+◌, Bool, cond, not, ◌&&◌, ◌||◌, List, length, ◌==◌, nat_lt, slice_index_or}
use Rattle.sheets.specs.Meaning.{Meaning}
use Rattle.evidence.specs.declared.records.Meter.{Meter}
use Rattle.evidence.specs.declared.records.Flat.{Flat}
use Rattle.evidence.specs.declared.records.Candidate.{Candidate}

-- The record at a place; past the end of its list it reads as zeros.
abbrev pub meter_at : List Meter → ℕ → Meter
meter_at ms k = slice_index_or ms k (record { serial = 0; collector = 0 })

abbrev pub flat_at : List Flat → ℕ → Flat
flat_at fs k = slice_index_or fs k (record { riser = 0; floor = 0 })

abbrev pub candidate_at : List Candidate → ℕ → Candidate
candidate_at cs k = slice_index_or cs k (record { meter = 0; flat = 0 })

-- Both meters and both flats differ.
abbrev pub apart : Candidate → Candidate → Bool
apart a b = not (a.meter == b.meter) && not (a.flat == b.flat)

-- 40 for one collector and one riser, 15 for two collectors and two risers, otherwise 0.
abbrev pub wiring : Meter → Meter → Flat → Flat → ℕ
wiring a b f g = cond (a.collector == b.collector) (cond (f.riser == g.riser) 40 0) (cond (f.riser == g.riser) 0 15)

-- The higher serial has the higher floor.
abbrev pub rises : Meter → Meter → Flat → Flat → Bool
rises a b f g = (nat_lt a.serial b.serial && nat_lt f.floor g.floor) || (nat_lt b.serial a.serial && nat_lt g.floor f.floor)

-- 11 if the higher serial has the higher floor, 4 if the floors are equal, otherwise 0.
abbrev pub order : Meter → Meter → Flat → Flat → ℕ
order a b f g = cond (rises a b f g) 11 (cond (f.floor == g.floor) 4 0)

-- What two candidates earn together.
abbrev pub earned : List Meter → List Flat → Candidate → Candidate → ℕ
earned ms fs a b =
    let m = meter_at ms a.meter in
    let n = meter_at ms b.meter in
    let f = flat_at fs a.flat in
    let g = flat_at fs b.flat in
    wiring m n f g + order m n f g

-- Two of the first n candidates fit when they are apart.
abbrev pub evidence_fit : ℕ → List Candidate → ℕ → ℕ → Bool
evidence_fit n cs u v = (nat_lt u n && nat_lt v n) && apart (candidate_at cs u) (candidate_at cs v)

-- The sheet of the first n candidates; two that don't fit have 0 points.
abbrev pub evidence_of : ℕ → List Meter → List Flat → List Candidate → Meaning
evidence_of n ms fs cs = record { size = n; fit = evidence_fit n cs; points = λ u v. cond (evidence_fit n cs u v) (earned ms fs (candidate_at cs u) (candidate_at cs v)) 0 }

-- The sheet of all candidates.
abbrev pub evidence : List Meter → List Flat → List Candidate → Meaning
evidence ms fs cs = evidence_of (length cs) ms fs cs
