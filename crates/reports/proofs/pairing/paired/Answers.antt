use Rattle.std.proofs.Common.{◌≡◌, ℕ, List, ◌∷◌, Ok, sym, subst}
use Rattle.sheets.specs.Meaning.{Meaning}
use Rattle.texts.specs.Reading.{read}
use Rattle.reports.specs.Reports.{Reports}
use Rattle.reports.proofs.pairing.paired.Goals as goal

pub returns : goal.returns
returns c =
    let text = c.args.text.now in
    let size = c.in_ok-table.table.size in
    record {
      size = size;
      entries = c.as_slice.result.now;
      holds = subst (λ (es : List ℕ). read text ≡ Ok (size ∷ es)) (sym c.as_slice.ensures.value) c.in_ok-table.ensures.value;
      accepted = c.in_ok-sheet.ensures.0;
      reports = subst (λ (m : Meaning). Reports m c.of.result) c.in_ok-sheet.ensures.1 c.of.ensures;
    }
