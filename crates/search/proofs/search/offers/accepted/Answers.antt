use Rattle.std.proofs.Common.{◌≡◌, ℕ, ◌+◌, ◌<◌, true, [], ◌∷◌, ◌++◌, get_or, sym, ap, ◌∙◌, subst, arith}
use Rattle.std.proofs.lemmas.List.{take_more}
use Rattle.candidates.specs.Members.{members}
use Rattle.candidates.specs.Sets.{is_in}
use Rattle.candidates.proofs.Marks.{members-last}
use Rattle.search.proofs.Offers.{asked-next, below-push}
use Rattle.search.proofs.search.offers.accepted.Goals as goal

pub loop-place-preserved : goal.loop-place-preserved
loop-place-preserved g c =
    let m = g.S.Sheet.meaning c.args.sheet.now in
    let list = c.args.list.now in
    let set = c.loop-place.set in
    let v = get_or list c.loop-place.place 0 in
    let low : v < m.size = omega (arith, c.size.ensures, c.if-v-size.false) in
    let small : v < 256 = omega (arith, (g.S.Sheet.lawful c.args.sheet.now).most) in
    let added : members c.with-set.result ≡ members set ++ v ∷ [] = members-last set c.with-set.result v small c.with-set.ensures.list (λ k e. omega (arith, c.loop-place.invariant.1 k e, c.if-v-least.false)) in
    let below = below-push (members set) c.loop-place.least v c.loop-place.invariant.1 c.if-v-least.false in (
      added ∙ ap (λ xs. xs ++ v ∷ []) c.loop-place.invariant.0 ∙ sym (take_more list c.loop-place.place 0 c.loop-place-test.true),
      subst (λ xs. (k : ℕ) → is_in k xs ≡ true → k < v + 1) (sym added) below,
      omega arith,
      asked-next m list c.loop-place.least c.loop-place.place c.loop-place-test.true low c.if-v-least.false c.in_default.ensures ∙ c.loop-place.invariant.3,
    )
