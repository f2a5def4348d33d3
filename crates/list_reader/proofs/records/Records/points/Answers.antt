use Rattle.std.proofs.Common.{◌∙◌, arith}
use Rattle.list_reader.proofs.Places.{points-place}
use Rattle.list_reader.proofs.records.Records.points.Goals as goal

pub returns : goal.returns
returns c = c.u16_at.ensures ∙ points-place c.args.self.now.bytes.now (omega arith) c.args.j c.saturating_add.result (omega arith)
