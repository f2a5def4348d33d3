use Rattle.std.proofs.Common.{rules, tests, ◌≡◌, ◌/◌, ◌%◌, arith}
use Rattle.dense.proofs.Made.{made}
use Rattle.dense.proofs.copying.square_of.Goals as goal

pub returns : goal.returns
returns g c = λ k below.
    let earned = (g.S.Sheet.meaning c.args.sheet.now).points in
    made (λ k p. p ≡ earned (k / 256) (k % 256)) _ c.from_fn.result 0 (λ k y q called. search (rules, tests)) 65536 0 c.from_fn.ensures.items.each k (omega arith) (omega arith)
