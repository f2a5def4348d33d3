use Rattle.std.proofs.Common.{ap, arith}
use Rattle.candidates.specs.Members.{members}
use Rattle.rules.specs.Bounds.{inside}
use Rattle.rules.specs.Classes.{classes-partition}
use Rattle.rules.specs.ColourBounds.{started-le}
use Rattle.rules.proofs.colour.Colour.sum_of_highest.Goals as goal

pub coloured-requires : goal.coloured-requires
coloured-requires g c = λ k. omega (arith, ap (λ σ. σ k) c.started.ensures, started-le (g.S.Sheet.meaning c.args.sheet.now) (g.S.Sheet.lawful c.args.sheet.now) (members c.inside-c.result) (members c.inside-s.result) c.inside-c.ensures.candidates k)

pub returns-clause-classes : goal.returns-clause-classes
returns-clause-classes g c =
    let m = g.S.Sheet.meaning c.args.sheet.now in
    classes-partition m (g.S.Sheet.lawful c.args.sheet.now) (inside m (members c.args.c)) (inside m (members c.args.s))
