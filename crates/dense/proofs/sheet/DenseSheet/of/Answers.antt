use Rattle.std.proofs.Common.{◌≡◌, sym, ap, ◌∙◌, subst}
use Rattle.sheets.specs.Meaning.{Lawful}
use Rattle.dense.specs.Dense.{meaning_by}
use Rattle.dense.proofs.Copied.{copied}
use Rattle.dense.proofs.sheet.DenseSheet.of.Given as given
use Rattle.dense.proofs.sheet.DenseSheet.of.Goals as goal
use Rattle.dense.proofs.sheet.DenseSheet.of.Goals.{After-square_of}

alike : (g : given.Over) (c : After-square_of g) → meaning_by c.size.result c.rows_of.result c.square_of.result ≡ g.S.Sheet.meaning c.args.sheet.now
alike g c =
    let m = g.S.Sheet.meaning c.args.sheet.now in
    ap (λ n. meaning_by n c.rows_of.result c.square_of.result) c.size.ensures
    ∙ copied m (g.S.Sheet.lawful c.args.sheet.now) c.rows_of.result c.square_of.result c.rows_of.ensures c.square_of.ensures

pub invariant_of-result : goal.invariant_of-result
invariant_of-result g c = record { laws = ∣ subst Lawful (sym (alike g c)) (g.S.Sheet.lawful c.args.sheet.now) ∣₁ }

pub returns : goal.returns
returns g c = alike g (goal.at.returns g c).After-square_of
