use Rattle.std.proofs.Common.{arith}
use Rattle.candidates.specs.Members.{members}
use Rattle.rules.specs.PathBounds.{path-bounds}
use Rattle.rules.proofs.path.PathRule.number.Goals as goal

pub longest-requires : goal.longest-requires
longest-requires g c = omega (arith, path-bounds.limit (g.S.Sheet.meaning c.args.sheet.now) (g.S.Sheet.lawful c.args.sheet.now) (members c.inside.result) (members c.inside-2.result) c.inside.ensures.candidates c.inside-2.ensures.candidates)
