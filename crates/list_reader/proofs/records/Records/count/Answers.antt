use Rattle.std.proofs.Common.{◌+◌, ◌*◌, get_or, ap, arith}
use Rattle.blocks.specs.Format.{record_count}
use Rattle.list_reader.proofs.records.Records.count.Goals as goal

pub returns : goal.returns
unfolding record_count
returns c =
    let place = ap (λ full. get_or c.args.self.now.bytes.now (512 * full + 2) 0) c.saturating_sub-full.ensures in omega (arith, place)
