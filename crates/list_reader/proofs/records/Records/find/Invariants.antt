use Rattle.std.proofs.Common.{◌≡◌, ◌-◌}
use Rattle.blocks.specs.Format.{record_at}
use Rattle.list_reader.specs.Halving.{halving, found}
use Rattle.list_reader.proofs.records.Records.find.Given as goal

abbrev pub invariant-loop-low : goal.invariant-loop-low
invariant-loop-low l = halving (record_at l.self.bytes.now) l.key (l.high - l.low) l.low l.high ≡ found l.self.bytes.now l.key

abbrev pub decreases-loop-low : goal.decreases-loop-low
decreases-loop-low l = l.high - l.low
