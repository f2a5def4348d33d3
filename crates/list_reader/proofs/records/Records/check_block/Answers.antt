use Rattle.std.proofs.Common.{◌≡◌, true, false, eqb, get_or, sym, ap, ◌∙◌, arith}
use Rattle.std.proofs.lemmas.Result.{err_from_is_err_and}
use Rattle.std.proofs.lemmas.Bool.{cond-true, cond-false, eq-eqb, ne_eqb}
use Rattle.blocks.proofs.Asked.{raised}
use Rattle.blocks.specs.declared.faults.ListFault.TheVariants.{Block}
use Rattle.list_reader.proofs.Turns.{seal-no, seal-ok}
use Rattle.list_reader.proofs.records.Records.check_block.Goals as goal

pub returns-in_err-check_seal : goal.returns-in_err-check_seal
returns-in_err-check_seal c is =
    let p = err_from_is_err_and c.from_residual.result c.from_residual.ensures.1 in
    let bytes = c.args.self.now.bytes.now in
    rw (p.1, p.2) (seal-no bytes c.args.place c.args.block.now is _ (sym c.in_err-check_seal.ensures))

pub returns-then-byte_at : goal.returns-then-byte_at
returns-then-byte_at c is =
    let bytes = c.args.self.now.bytes.now in
    let ok = seal-ok bytes c.args.place c.args.block.now is (sym c.in_ok-check_seal.ensures) in
    let own = get_or c.args.block.now 3 0 in
    let other : eqb own (get_or bytes 3 0) ≡ false = ne_eqb own (get_or bytes 3 0) (λ same. omega (arith, same)) in
    sym (cond-false _ _ _ other) ∙ ok

pub returns-in_err-check_fill : goal.returns-in_err-check_fill
returns-in_err-check_fill c is =
    let p = err_from_is_err_and c.from_residual-in_err-check_fill.result c.from_residual-in_err-check_fill.ensures.1 in
    let bytes = c.args.self.now.bytes.now in
    let ok = seal-ok bytes c.args.place c.args.block.now is (sym c.in_ok-check_seal.ensures) in
    let own = get_or c.args.block.now 3 0 in
    let same : eqb own (get_or bytes 3 0) ≡ true = eq-eqb own (get_or bytes 3 0) (omega arith) in
    rw (p.1, p.2) (ap (raised Block) c.in_err-check_fill.ensures ∙ (sym (cond-true _ _ _ same) ∙ ok))

pub returns : goal.returns
returns c is =
    let bytes = c.args.self.now.bytes.now in
    let ok = seal-ok bytes c.args.place c.args.block.now is (sym c.in_ok-check_seal.ensures) in
    let own = get_or c.args.block.now 3 0 in
    let same : eqb own (get_or bytes 3 0) ≡ true = eq-eqb own (get_or bytes 3 0) (omega arith) in
    ap (raised Block) c.in_ok-check_fill.ensures ∙ (sym (cond-true _ _ _ same) ∙ ok)
