use Rattle.std.proofs.Common.{ap, ◌∙◌, arith}
use Rattle.std.proofs.lemmas.Result.{err_from_is_err_and}
use Rattle.std.proofs.lemmas.Bool.Decides.{nat_tests}
use Rattle.blocks.specs.declared.faults.ProgramFault.TheVariants.{List as Listed}
use Rattle.blocks.specs.Questions.{program_judged}
use Rattle.blocks.proofs.Asked.{raised}
use Rattle.list_reader.proofs.Turns.{program-asked}
use Rattle.list_reader.proofs.sheet.read_input.Goals as goal

pub returns-then-bytes-gt65536 : goal.returns-then-bytes-gt65536
unfolding program_judged
returns-then-bytes-gt65536 c = grind (arith, nat_tests)

pub returns-in_err-sheet : goal.returns-in_err-sheet
returns-in_err-sheet c =
    let p = err_from_is_err_and c.from_residual.result c.from_residual.ensures.1 in
    rw (p.1, p.2) (program-asked c.args.bytes.now c.if-bytes-gt65536.false ∙ ap (raised Listed) c.in_err-sheet.ensures)

pub returns : goal.returns
returns c =
    let read = c.in_ok-sheet.ensures in
    (program-asked c.args.bytes.now c.if-bytes-gt65536.false ∙ ap (raised Listed) read.0, read.1)
