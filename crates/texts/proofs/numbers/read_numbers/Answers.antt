use Rattle.std.proofs.lemmas.Result.{err_from_is_err_and}
use Rattle.texts.proofs.Scans.{sofar-stops}
use Rattle.texts.proofs.numbers.read_numbers.Goals as goal

pub returns-in_err-begun : goal.returns-in_err-begun
returns-in_err-begun c =
    let p = err_from_is_err_and c.from_residual.result c.from_residual.ensures.1 in
    rw (p.1, p.2) (sofar-stops _ _ _ _ c.loop-place.invariant _ c.loop-place-test.true c.in_err-begun.ensures)
