use Rattle.std.proofs.Common.{◌∙◌}
use Rattle.blocks.proofs.Numbers.{number_from}
use Rattle.blocks.proofs.bytes.u32_at.Goals as goal

pub returns : goal.returns
returns c = c.from_le_bytes.ensures ∙ number_from 3 c.args.place c.array_at.result c.args.bytes.now c.array_at.ensures
