use Rattle.std.proofs.Common.{◌≡◌, max, ltb, [], ◌∷◌, ◌++◌, sym, ap, ◌∙◌, subst, arith}
use Rattle.std.proofs.lemmas.List.{append_assoc}
use Rattle.std.proofs.lemmas.Bool.{cond-true, lt-ltb}
use Rattle.candidates.specs.Members.{members}
use Rattle.candidates.specs.Sets.{Ascending, inserted}
use Rattle.candidates.specs.Walk.{remaining}
use Rattle.candidates.proofs.Marks.{members-from}
use Rattle.candidates.proofs.Walk.{next-below}
use Rattle.rules.specs.Noted.{at}
use Rattle.rules.specs.Path.{longest}
use Rattle.rules.proofs.Lengths.{inserted-next, longest-more}
use Rattle.rules.proofs.path.longest.Given as given
use Rattle.rules.proofs.path.longest.Goals as goal
use Rattle.rules.proofs.path.longest.Goals.{After-max-most}

pub note-requires : goal.note-requires
note-requires g c = next-below _ _ _ c.in-Some.ensures.steps

-- v and what is left then
left : (g : given.Over) (c : After-max-most g) → remaining c.loop-v.v-iterator ≡ c.in-Some.v ∷ remaining c.next.new.self
left g c = c.in-Some.ensures.steps

split : (g : given.Over) (c : After-max-most g) → members c.loop-v.lower ++ c.in-Some.v ∷ remaining c.next.new.self ≡ remaining c.into_iter-v-iterator.result
split g c = ap (λ l. members c.loop-v.lower ++ l) (sym (left g c)) ∙ c.loop-v.invariant.0

-- v stands behind the lower ones
pushed : (g : given.Over) (c : After-max-most g) → members c.with-lower.result ≡ members c.loop-v.lower ++ c.in-Some.v ∷ []
pushed g c =
    let v = c.in-Some.v in
    let lower = members c.loop-v.lower in
    let begun = ap remaining c.into_iter-v-iterator.ensures.into_iter_gives ∙ c.iter-v-items.ensures in
    let up = subst Ascending (sym (split g c ∙ begun)) (members-from c.args.s) in
    c.with-lower.ensures.list
    ∙ cond-true (ltb v 256) (inserted v lower) lower (lt-ltb v 256 (next-below _ _ _ (left g c)))
    ∙ inserted-next v lower (remaining c.next.new.self) up

pub loop-v-preserved : goal.loop-v-preserved
loop-v-preserved g c =
    let m = g.S.Sheet.meaning c.args.sheet.now in
    let C = members c.args.c in
    let v = c.in-Some.v in
    let x = c.length_of-length.result in
    let lower = members c.loop-v.lower in
    let ℓ = at c.loop-v.lengths in
    let higher = remaining c.next.new.self in
    let more : c.max-most.result ≡ max c.loop-v.most x = omega arith in (
      ap (λ l. l ++ higher) (pushed g c) ∙ append_assoc lower (v ∷ []) higher ∙ split g c,
      (λ i. max (more i) (longest m C (pushed g c i) (c.note.ensures i) higher))
          ∙ longest-more m C lower ℓ v higher c.loop-v.most x c.length_of-length.ensures
          ∙ ap (λ l. max c.loop-v.most (longest m C lower ℓ l)) (sym (left g c))
          ∙ c.loop-v.invariant.1,
    )
