use Rattle.std.proofs.Common.{◌≡◌, true, false, rules, tests}
use Rattle.std.proofs.lemmas.Iterator.{first_from_Range}
use Rattle.blocks.specs.Format.{has_record}
use Rattle.list_writer.proofs.Keys.{records_from-first}
use Rattle.list_writer.proofs.records.next_key.Goals as goal

pub returns-clause-records : goal.returns-clause-records
returns-clause-records g c =
    let m = g.S.Sheet.meaning c.args.sheet.now in
    records_from-first m c.args.size c.args.from c.find.result c.requires (first_from_Range _ _ _ _ (λ k. has_record m k ≡ true) (λ k. has_record m k ≡ false) c.find.ensures.ran (λ x q k. search (rules, tests)) (λ x q k. search (rules, tests)))
