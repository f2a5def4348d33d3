-- What an evidence sheet means, and what evidence is answered with.
use Rattle.std.specs.Prelude.{◌≡◌, List, length, Ok, Err, Result}
use Rattle.sheets.specs.Meaning.{Lawful, Meaning}
use Rattle.evidence.specs.declared.records.Meter.{Meter}
use Rattle.evidence.specs.declared.records.Flat.{Flat}
use Rattle.evidence.specs.declared.records.Candidate.{Candidate}
use Rattle.evidence.specs.declared.sheet.EvidenceSheet.{EvidenceSheet}
use Rattle.evidence.specs.declared.fault.EvidenceFault.{EvidenceFault}
use Rattle.evidence.specs.Evidence.{evidence}
use Rattle.evidence.specs.Judged.{evidence_judged}
use Rattle.evidence.specs.Laws.{evidence-laws}

-- It means its lists.
abbrev pub meaning_of : EvidenceSheet → Meaning
meaning_of s = evidence s.meters.now s.flats.now s.candidates.now

pub evidence-lawful : (s : EvidenceSheet) → Lawful (meaning_of s)
evidence-lawful s = evidence-laws (length s.candidates.now) s.meters.now s.flats.now s.candidates.now s.least s.most

-- A sheet that means the evidence, or the fault that decides.
abbrev pub Answered : List Meter → List Flat → List Candidate → Result EvidenceSheet EvidenceFault → Type 0
Answered ms fs cs (Ok s) = (evidence_judged ms fs cs ≡ Ok tt) × (meaning_of s ≡ evidence ms fs cs)
Answered ms fs cs (Err e) = evidence_judged ms fs cs ≡ Err e
