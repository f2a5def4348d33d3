use Rattle.std.proofs.Common.{rules}
use Rattle.blocks.specs.Format.{meaning_of}
use Rattle.list_reader.proofs.sheet.ListSheetSheet.size.Goals as goal

pub returns : goal.returns
unfolding meaning_of
returns c = search rules
