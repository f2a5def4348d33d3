use Rattle.std.proofs.Common.{◌≡◌, ◌&&◌, filter, ap, ◌∙◌, arith}
use Rattle.candidates.specs.Members.{has, members}
use Rattle.candidates.proofs.Marks.{members_kept}
use Rattle.rules.specs.Noted.{at}
use Rattle.rules.specs.Greatest.{greatest}
use Rattle.rules.proofs.path.length_of.Given as given
use Rattle.rules.proofs.path.length_of.Goals as goal
use Rattle.rules.proofs.path.length_of.Goals.{After-greatest}

-- the greatest length of those that fit v
fits : (g : given.Over) (c : After-greatest g) → c.greatest.result ≡ greatest (at c.args.lengths.now) (filter ((g.S.Sheet.meaning c.args.sheet.now).fit c.args.v) (members c.args.lower))
fits g c =
    let lower = c.args.lower in
    let fit = (g.S.Sheet.meaning c.args.sheet.now).fit c.args.v in
    c.greatest.ensures ∙ ap (greatest (at c.args.lengths.now)) (members_kept lower c.meet-fitting.result fit (λ k. c.meet-fitting.ensures.marks k ∙ ap (λ b. has lower k && b) (c.fitting.ensures k)))

pub overflow_add-result-2 : goal.overflow_add-result-2
overflow_add-result-2 g c = omega (arith, fits g c)

pub returns : goal.returns
returns g c = omega (arith, fits g (goal.at.returns g c).After-greatest)
