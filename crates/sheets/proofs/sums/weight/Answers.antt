use Rattle.std.proofs.Common.{◌≡◌, ◌≤◌, ◌∷◌, sym, ap, ◌∙◌, arith}
use Rattle.candidates.specs.Members.{members}
use Rattle.candidates.specs.Sets.{least}
use Rattle.candidates.proofs.Marks.{length-members, members-lowest}
use Rattle.sheets.specs.Weights.{weight}
use Rattle.sheets.proofs.Weights.{weight-limit}
use Rattle.sheets.proofs.sums.weight.Given as given
use Rattle.sheets.proofs.sums.weight.Goals as goal
use Rattle.sheets.proofs.sums.weight.Goals.{After-rho-sum}

-- what was left is v and what is left now
taken : (g : given.Over) (c : After-rho-sum g) → members c.loop-v.rest ≡ c.in-Some.v ∷ members c.without-rest.result
taken g c = members-lowest c.loop-v.rest c.without-rest.result c.in-Some.v (sym (ap least (c.loop-v.invariant.0 ∙ c.in-Some.ensures.steps))) c.without-rest.ensures.list

most : (g : given.Over) (c : After-rho-sum g) → weight (g.S.Sheet.meaning c.args.sheet.now) (members c.args.set) ≤ 2139029760
most g c = weight-limit (g.S.Sheet.meaning c.args.sheet.now) (g.S.Sheet.lawful c.args.sheet.now) (members c.args.set) (length-members c.args.set)

pub overflow_add-sum : goal.overflow_add-sum
overflow_add-sum g c = omega (arith, c.loop-v.invariant.1, ap (weight (g.S.Sheet.meaning c.args.sheet.now)) (taken g c), most g c)

pub loop-v-preserved : goal.loop-v-preserved
loop-v-preserved g c = (cc (taken g c, c.loop-v.invariant.0, c.in-Some.ensures.steps), omega (arith, c.loop-v.invariant.1, ap (weight (g.S.Sheet.meaning c.args.sheet.now)) (taken g c)))

pub returns-clause-bound : goal.returns-clause-bound
returns-clause-bound g c =
    let m = g.S.Sheet.meaning c.args.sheet.now in
    omega (arith, c.loop-v.invariant.1, weight-limit m (g.S.Sheet.lawful c.args.sheet.now) (members c.args.set) (length-members c.args.set))
