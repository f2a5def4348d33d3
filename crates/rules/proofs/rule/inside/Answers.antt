use Rattle.std.proofs.Common.{sym, subst}
use Rattle.candidates.specs.Members.{members}
use Rattle.candidates.proofs.Marks.{members-from}
use Rattle.rules.specs.Bounds.{Candidates}
use Rattle.rules.proofs.Inside.{members-inside, inside-candidates}
use Rattle.rules.proofs.rule.inside.Goals as goal

pub returns : goal.returns
returns g c =
    let m = g.S.Sheet.meaning c.args.sheet.now in
    let set = c.args.set in
    let list = members-inside m (g.S.Sheet.lawful c.args.sheet.now) c.size.result set c.first.result c.meet.result c.size.ensures c.first.ensures.marks c.meet.ensures.marks in
    record { list = list; candidates = subst (Candidates m) (sym list) (inside-candidates m (members set) (members-from set)) }
