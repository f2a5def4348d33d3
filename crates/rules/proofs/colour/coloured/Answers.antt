use Rattle.std.proofs.Common.{◌≡◌, ℕ, ◌-◌, ◌*◌, ◌<◌, List, [], length, ap, ◌∙◌, arith}
use Rattle.std.proofs.lemmas.Bool.{false≢true}
use Rattle.candidates.specs.Members.{members}
use Rattle.candidates.specs.Sets.{is_in, without}
use Rattle.candidates.proofs.Marks.{is_in-members, length-members}
use Rattle.rules.specs.Noted.{at}
use Rattle.rules.specs.Colour.{class_of, raised, coloured, sum_of_highest}
use Rattle.rules.specs.ColourBounds.{raised-le, coloured-limit}
use Rattle.rules.proofs.Colouring.{left_less, coloured-more}
use Rattle.rules.proofs.colour.coloured.Given as given
use Rattle.rules.proofs.colour.coloured.Goals as goal
use Rattle.rules.proofs.colour.coloured.Goals.{After-greatest-sum}

pub loop-sigma-init : goal.loop-sigma-init
loop-sigma-init g c = (λ k. omega (arith, c.requires k, length-members c.args.s), omega arith)

-- something is left, and the class has the members of the one that is picked
some : (g : given.Over) (c : After-greatest-sum g) → members c.loop-sigma.left ≡ [] → ⊥
some g c none = false≢true (c.loop-sigma-test.ensures.1 none)

same : (g : given.Over) (c : After-greatest-sum g) (k : ℕ) → is_in k (members c.class_of-class.result) ≡ is_in k (class_of (g.S.Sheet.meaning c.args.sheet.now) (at c.loop-sigma.sigma) (members c.loop-sigma.left))
same g c k = is_in-members c.class_of-class.result k ∙ c.class_of-class.ensures k

fewer : (g : given.Over) (c : After-greatest-sum g) → length (without (members c.loop-sigma.left) (members c.class_of-class.result)) < length (members c.loop-sigma.left)
fewer g c = left_less (g.S.Sheet.meaning c.args.sheet.now) (at c.loop-sigma.sigma) (members c.loop-sigma.left) (members c.class_of-class.result) (some g c) (same g c)

pub overflow_add-sum : goal.overflow_add-sum
overflow_add-sum g c =
    let m = g.S.Sheet.meaning c.args.sheet.now in
    let S = members c.args.s in
    let short = length-members c.args.s in
    omega (
      arith,
      c.loop-sigma.invariant.1,
      coloured-more m (at c.loop-sigma.sigma) (members c.loop-sigma.left) (members c.class_of-class.result) (some g c) (same g c),
      coloured-limit m (g.S.Sheet.lawful c.args.sheet.now) (length S) 16776704 (at c.args.sigma) S (omega arith) c.requires,
    )

pub loop-sigma-smaller : goal.loop-sigma-smaller
loop-sigma-smaller g c = omega (arith, ap length c.minus-left.ensures.list, fewer g (goal.at.loop-sigma-smaller g c).After-greatest-sum)

pub loop-sigma-preserved : goal.loop-sigma-preserved
loop-sigma-preserved g c =
    let d = (goal.at.loop-sigma-preserved g c).After-greatest-sum in
    let m = g.S.Sheet.meaning c.args.sheet.now in
    let K = members c.class_of-class.result in
    let σ = at c.loop-sigma.sigma in
    let old = members c.loop-sigma.left in
    let new = members c.minus-left.result in
    let sum : List ℕ → (ℕ → ℕ) → ℕ = λ l τ. sum_of_highest (coloured m (length l) τ l) in
    let room = raised-le m (g.S.Sheet.lawful c.args.sheet.now) K new σ (33553408 - 65534 * length old) c.loop-sigma.invariant.0 in
    let rest = ap (sum new) c.raise.ensures ∙ ap (λ l. sum l (raised m K l σ)) c.minus-left.ensures.list in (
      λ k. omega (arith, ap (λ τ. τ k) c.raise.ensures, room k, length-members c.loop-sigma.left, ap length c.minus-left.ensures.list, fewer g d),
      omega (arith, rest, coloured-more m σ old K (some g d) (same g d), c.greatest-sum.ensures, c.loop-sigma.invariant.1),
    )
