use Rattle.std.proofs.Common.{rules, ◌≡◌, nat_le, length, ℕ, ◌+◌, ◌-◌, ◌<◌, List, not, get_or, drop, sym, ◌∙◌, arith, length-drop}
use Rattle.std.specs.List.{position, zip}
use Rattle.std.proofs.lemmas.Bool.Decides.{nat_tests}
use borrow.Author.Tests.{tests}
use Rattle.std.proofs.lemmas.Iterator.{YieldsList-from_slice, YieldsList-from_zip}
use Rattle.std.proofs.lemmas.Iterator.Search.{position_from_yields_List}
use Rattle.std.proofs.lemmas.Iterator.Adapters.{YieldsList-from_skip}
use Rattle.std.proofs.lemmas.Slice.Zip.{length-zip, get_or-zip}
use Rattle.evidence.specs.declared.records.Meter.{Meter}
use Rattle.std.proofs.lemmas.List.{get_or-drop}
use Rattle.std.specs.Iterator.Adapters.{zip_first, zip_second, skip_source}
use Rattle.evidence.specs.Judged.{serial_above}
use Rattle.evidence.proofs.Questions.{first_no-found, first_no-nothing}
use Rattle.evidence.proofs.sheet.check_serials.Goals as goal
use Rattle.evidence.proofs.sheet.check_serials.Goals.{After-position-low}

-- what the code looks for
found : (c : After-position-low) → c.position-low.result ≡ position (λ x. nat_le x.0.serial x.1.serial) (zip (drop 1 c.args.meters.now) c.args.meters.now)
found c =
    let ms = c.args.meters.now in
    position_from_yields_List (λ x. nat_le x.0.serial x.1.serial) c.position-low.new.self _ c.position-low.result c.position-low.ensures.ran
    (YieldsList-from_zip {s = c.zip.result} (YieldsList-from_skip {s = zip_first c.zip.result} 1 (YieldsList-from_slice {s = skip_source (zip_first c.zip.result)} ms cc) cc) (YieldsList-from_slice {s = zip_second c.zip.result} ms cc)) (λ x b q k. search (rules, tests))

abbrev none : Meter
none = record { serial = 0; collector = 0 }

counted : (ms : List Meter) → length ms - 1 ≡ length (zip (drop 1 ms) ms)
counted ms = omega (arith, length-zip (drop 1 ms) ms, length-drop 1 ms)

asks : (ms : List Meter) (k : ℕ) → k < length (zip (drop 1 ms) ms) → (serial_above ms (1 + k)).0 ≡ not (nat_le (get_or (zip (drop 1 ms) ms) k (none, none)).0.serial (get_or (zip (drop 1 ms) ms) k (none, none)).1.serial)
asks ms k lt =
    let pair : get_or (zip (drop 1 ms) ms) k (none, none) ≡ (get_or (drop 1 ms) k none, get_or ms k none) = get_or-zip (drop 1 ms) ms k (none, none) (omega (arith, length-zip (drop 1 ms) ms)) (omega (arith, length-zip (drop 1 ms) ms)) in
    let before : 1 + k - 1 ≡ k = omega arith in
    rw (before, pair, get_or-drop) (grind (arith, nat_tests))

pub returns-in-Some : goal.returns-in-Some
returns-in-Some c =
    let ms = c.args.meters.now in
    sym (first_no-found (serial_above ms) (λ x. nat_le x.0.serial x.1.serial) (zip (drop 1 ms) ms) 1 (length ms) (none, none) (asks ms) (counted ms) c.in-Some.place (c.in-Some.place + 1) (omega arith) (sym c.in-Some.is ∙ found (goal.at.returns-in-Some c).After-position-low))

pub returns-in-None : goal.returns-in-None
returns-in-None c =
    let ms = c.args.meters.now in
    sym (first_no-nothing (serial_above ms) (λ x. nat_le x.0.serial x.1.serial) (zip (drop 1 ms) ms) 1 (length ms) (none, none) (asks ms) (counted ms) (sym c.in-None.is ∙ found (goal.at.returns-in-None c).After-position-low))
