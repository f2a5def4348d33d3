use Rattle.std.proofs.Common.{◌≡◌, ℕ, ◌<◌, Bool, not, ◌&&◌, ◌||◌, eqb, ltb, length, filter, sym, ap, ◌∙◌, arith}
use Rattle.std.proofs.lemmas.Bool.Decides.{nat_tests}
use Rattle.candidates.specs.Members.{has, members}
use Rattle.candidates.specs.Sets.{is_in}
use Rattle.candidates.proofs.Marks.{members-below, members_kept}
use Rattle.rules.specs.Noted.{at}
use Rattle.rules.specs.Colour.{joinable, class_of}
use Rattle.rules.proofs.Colouring.{least_of-in, joinable-less, class_of-more}
use Rattle.rules.proofs.colour.class_of.Given as given
use Rattle.rules.proofs.colour.class_of.Goals as goal
use Rattle.rules.proofs.colour.class_of.Goals.{After-minus-open}

-- those that can still join
joining : (g : given.Over) (c : After-minus-open g) → members c.minus-open.result ≡ joinable (g.S.Sheet.meaning c.args.sheet.now) c.in-Some.v (members c.loop-v.open)
joining g c =
    let others = c.without.result in
    let apart = λ (u : ℕ). not ((g.S.Sheet.meaning c.args.sheet.now).fit c.in-Some.v u) in
    members_kept others c.minus-open.result apart (λ k. c.minus-open.ensures.marks k ∙ ap (λ b. has others k && not b) (c.fitting.ensures k))
    ∙ ap (filter apart) c.without.ensures.list

pub loop-v-smaller : goal.loop-v-smaller
loop-v-smaller g c = omega (arith, ap length (joining g c), joinable-less (g.S.Sheet.meaning c.args.sheet.now) (at c.args.sigma.now) c.in-Some.v (members c.loop-v.open) c.in-Some.ensures)

-- v joins
joined : (k v : ℕ) (old new more : Bool) → v < 256 → new ≡ (old || (eqb k v && ltb k 256)) → (new || more) ≡ (old || (eqb k v || more))
joined k v old new more low is = grind (arith, nat_tests)

pub loop-v-preserved : goal.loop-v-preserved
loop-v-preserved g c = λ k.
    let m = g.S.Sheet.meaning c.args.sheet.now in
    let σ = at c.args.sigma.now in
    let v = c.in-Some.v in
    let rest = members c.loop-v.open in
    let low = members-below c.loop-v.open v (least_of-in σ v rest c.in-Some.ensures) in
    ap (λ l. has c.with-class.result k || is_in k (class_of m σ l)) (joining g c)
    ∙ joined k v (has c.loop-v.class k) (has c.with-class.result k) (is_in k (class_of m σ (joinable m v rest))) low (c.with-class.ensures.marks k)
    ∙ ap (λ l. has c.loop-v.class k || is_in k l) (sym (class_of-more m σ v rest c.in-Some.ensures))
    ∙ c.loop-v.invariant k
