use Rattle.std.proofs.Common.{arith}
use Rattle.candidates.specs.Members.{members}
use Rattle.rules.specs.FlatBounds.{flat-bounds}
use Rattle.rules.proofs.flat.FlatRule.number.Goals as goal

pub overflow_add-result : goal.overflow_add-result
overflow_add-result g c = omega (arith, flat-bounds.limit (g.S.Sheet.meaning c.args.sheet.now) (g.S.Sheet.lawful c.args.sheet.now) (members c.inside-c.result) (members c.inside-s.result) c.inside-c.ensures.candidates c.inside-s.ensures.candidates)
