use Rattle.std.proofs.Common.{rules, tests, ◌≡◌, [], arith}
use Rattle.candidates.specs.Members.{has}
use Rattle.dense.proofs.Made.{made}
use Rattle.dense.proofs.copying.rows_of.Goals as goal

pub returns : goal.returns
returns g c = λ u below k.
    let fit = (g.S.Sheet.meaning c.args.sheet.now).fit in
    made (λ i s. has s k ≡ fit i k) _ c.from_fn.result (record { words = [] }) (λ i s q called. search (rules, tests)) 256 0 c.from_fn.ensures.items.each u (omega arith) (omega arith)
