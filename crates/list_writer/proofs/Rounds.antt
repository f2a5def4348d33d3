-- The two round trips: what is written reads back as the sheet, and what is read is written as the same bytes.
use Rattle.std.proofs.Common.{◌≡◌, ℕ, ◌+◌, ◌-◌, ◌<◌, List, get_or, Ok, sym, ap, ◌∙◌, subst, ap₂, arith}
use Rattle.sheets.specs.Meaning.{Meaning, Lawful}
use Rattle.blocks.specs.Bytes.{Bytes}
use Rattle.blocks.specs.Format.{look, meaning_of, packed, records, records_of, sheet_by, size_of, written}
use Rattle.blocks.specs.Questions.{judged}
use Rattle.blocks.proofs.Accepted.{accepted-from-judged, judged-from-accepted}
use Rattle.list_writer.specs.Rounds.{RoundTrip}
use Rattle.list_writer.proofs.Canonical.{accepted-ordered, packed-again}
use Rattle.list_writer.proofs.Looks.{records-again, records-ordered, sheet-found}
use Rattle.list_writer.proofs.Ordered.{Ordered}
use Rattle.list_writer.proofs.Pairs.{records-few}
use Rattle.list_writer.proofs.Reading.{packed-accepted, records_of-packed, size-packed}
use Rattle.list_writer.proofs.Sealed.{bytes-get_d}

module _ (m : Meaning) (lawful : Lawful m) where
  size-again : m.size - 1 + 1 ≡ m.size
  size-again = omega (arith, lawful.least)

  ordered : Ordered (m.size - 1 + 1) (records m)
  ordered = subst (λ n. Ordered n (records m)) (sym size-again) (records-ordered m lawful)

  written-judged : judged (written m) ≡ Ok tt
  unfolding written
  written-judged =
      judged-from-accepted (written m) (packed-accepted (m.size - 1) (records m) (omega (arith, lawful.most)) ordered (omega (arith, records-few m lawful.most)))

  meaning-written : meaning_of (written m) ≡ m
  unfolding written meaning_of
  meaning-written =
      let low : ℕ = m.size - 1 in
      let same = records_of-packed low (records m) (omega (arith, lawful.most)) ordered in
      ap₂ (λ n rs. sheet_by n (λ key. look key rs)) (ap (λ b. b + 1) (size-packed low (records m)) ∙ size-again) same ∙ sheet-found m lawful

pub written-meaning : (bytes : List ℕ) → Bytes bytes → judged bytes ≡ Ok tt → written (meaning_of bytes) ≡ bytes
unfolding written meaning_of
written-meaning bytes all ok =
    let accepted = accepted-from-judged bytes ok in
    let byte : get_or bytes 3 0 < 256 = bytes-get_d bytes all 3 in
    let size : size_of bytes - 1 ≡ get_or bytes 3 0 = omega arith in
    ap₂ packed size (records-again (size_of bytes) (records_of bytes) (accepted-ordered bytes accepted all) (omega arith) (omega arith)) ∙ packed-again bytes accepted all

pub round_trip : (m : Meaning) → Lawful m → RoundTrip m
round_trip m lawful = record {
  accepted = written-judged m lawful;
  alike = meaning-written m lawful;
  only = λ bytes all ok same. sym (written-meaning bytes all ok) ∙ ap written same;
}
