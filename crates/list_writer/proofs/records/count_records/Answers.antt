use Rattle.std.proofs.Common.{◌*◌, ◌∙◌, arith, rules, tests}
use Rattle.std.proofs.lemmas.Iterator.{YieldsList-from_range}
use Rattle.std.proofs.lemmas.Iterator.Consumers.{YieldsList-from_filter, count_from_yields_List}
use Rattle.blocks.specs.Format.{has_record}
use Rattle.list_writer.proofs.Keys.{length-records}
use Rattle.list_writer.proofs.Pairs.{records-few}
use Rattle.list_writer.proofs.records.count_records.Goals as goal

pub returns : goal.returns
returns g c =
    let m = g.S.Sheet.meaning c.args.sheet.now in
    let counted = count_from_yields_List c.filter.result _ c.count.ensures.ran (YieldsList-from_filter _ (has_record m) (YieldsList-from_range 0 (256 * c.size.result) (256 * c.size.result) c.filter.ensures.source (omega arith)) c.filter.ensures.closure (λ x r q k. search (rules, tests))) ∙ length-records m c.size.result c.size.ensures in
    record { value = counted; bound = omega (arith, counted, records-few m (g.S.Sheet.lawful c.args.sheet.now).most) }
