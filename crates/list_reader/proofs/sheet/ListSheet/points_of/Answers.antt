use Rattle.std.proofs.Common.{◌+◌, ◌*◌, sym, ◌∙◌, arith}
use Rattle.std.proofs.lemmas.Bool.Decides.{nat_tests}
use Rattle.blocks.specs.Format.{known, look, meaning_of, records_of, size_of}
use Rattle.blocks.proofs.Accepted.{accepted-from-judged}
use Rattle.list_reader.proofs.Known.{fair-known}
use Rattle.list_reader.proofs.Meanings.{found-fair}
use Rattle.list_reader.proofs.sheet.ListSheet.points_of.Goals as goal
use Rattle.list_reader.proofs.sheet.ListSheet.points_of.Goals.{then-low-high-via-then-low-high, then-low-high-via-else-low-high+then-high-size}

pub returns-then-low-high : goal.returns-then-low-high
unfolding known meaning_of
returns-then-low-high c =
    elim c.then-low-high.branch [ then-low-high-via-then-low-high w ↦ grind (arith, nat_tests) | then-low-high-via-else-low-high+then-high-size w ↦ grind (arith, nat_tests) ]

pub returns : goal.returns
unfolding meaning_of
returns c =
    let s = c.args.self.now in
    let bytes = s.records.bytes.now in
    let key = c.min-low.result + 256 * c.max-high.result in
    let fair = found-fair bytes (accepted-from-judged bytes s.accepted) key in
    c.find.ensures ∙ (sym fair ∙ fair-known (size_of bytes) (λ key. look key (records_of bytes)) c.args.u c.args.v c.min-low.result c.max-high.result c.min-low.ensures c.max-high.ensures c.if-low-high.false (omega arith))

pub overflow_mul-high : goal.overflow_mul-high
unfolding meaning_of
overflow_mul-high c = omega (arith, c.args.self.now.small)

pub overflow_add-low : goal.overflow_add-low
unfolding meaning_of
overflow_add-low c = omega (arith, c.args.self.now.small)
