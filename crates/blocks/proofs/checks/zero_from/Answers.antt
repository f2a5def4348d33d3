use Rattle.std.proofs.Common.{rules, take, drop, eqb, sym, ap, ◌∙◌}
use borrow.Author.Tests.{tests}
use Rattle.std.proofs.lemmas.Slice.{between_is}
use Rattle.std.proofs.lemmas.Iterator.{YieldsList-from_slice, YieldsList-from_take}
use Rattle.std.proofs.lemmas.Iterator.Adapters.{YieldsList-from_skip}
use Rattle.std.proofs.lemmas.Iterator.Search.{all_from_yields_List}
use Rattle.blocks.specs.Bytes.{all_zero}
use Rattle.blocks.proofs.Sums.{all_zero-list_all}
use Rattle.blocks.proofs.checks.zero_from.Goals as goal

pub returns : goal.returns
returns c =
    let block = c.args.block.now in
    all_from_yields_List (λ b. eqb b 0) _ _ c.all.result c.all.ensures.ran (YieldsList-from_skip c.args.start (YieldsList-from_take 508 (YieldsList-from_slice block cc) (cc)) (cc)) (λ x b q k. search (rules, tests)) ∙ (all_zero-list_all (drop c.args.start (take 508 block)) ∙ ap all_zero (sym (between_is block c.args.start 508)))
