use Rattle.std.proofs.Common.{◌∙◌, arith}
use Rattle.list_reader.proofs.Places.{key-place}
use Rattle.list_reader.proofs.records.Records.key.Goals as goal

pub returns : goal.returns
returns c = c.u16_at.ensures ∙ key-place c.args.self.now.bytes.now (omega arith) c.args.j c.start.result c.start.ensures
