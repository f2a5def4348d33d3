use Rattle.std.proofs.Common.{◌≡◌, min, [], ap, ◌∙◌, arith}
use Rattle.candidates.specs.Members.{members}
use Rattle.candidates.specs.Sets.{counting}
use Rattle.rules.specs.Bounds.{Number, inside, number_inside}
use Rattle.rules.specs.Colour.{colour}
use Rattle.rules.specs.Flat.{flat}
use Rattle.rules.specs.Path.{path}
use Rattle.rules.specs.Numbers.{whole}
use Rattle.rules.proofs.Inside.{inside-all}
use Rattle.rules.proofs.numbers.Numbers.of.Goals as goal

pub returns-clause-value : goal.returns-clause-value
returns-clause-value g c =
    let m = g.S.Sheet.meaning c.args.sheet.now in
    let most = (g.S.Sheet.lawful c.args.sheet.now).most in
    let size : min c.size.result 256 ≡ m.size = omega (arith, c.size.ensures) in
    let none : inside m (members c.empty-none.result) ≡ [] = ap (inside m) c.empty-none.ensures.list in
    let all : inside m (members c.first-all.result) ≡ counting 0 m.size = ap (inside m) (c.first-all.ensures.list ∙ ap (counting 0) size) ∙ inside-all m in
    let at : (number : Number) → number_inside number m (members c.empty-none.result) (members c.first-all.result) ≡ whole number m = λ number i. number m (none i) (all i) in
    λ i. record { flat = (c.number.ensures ∙ at flat) i; colour = (c.number-2.ensures ∙ at colour) i; path = (c.number-3.ensures ∙ at path) i }
