use Rattle.std.proofs.Common.{◌≡◌, rules, [], ◌∷◌, cond, ltb, take, sym, ap, ◌∙◌}
use Rattle.std.proofs.iter.Yields.{fronts}
use Rattle.std.proofs.lemmas.Fn.{fold_over}
use Rattle.std.proofs.lemmas.Iterator.{YieldsList-from_slice, YieldsList-from_take}
use Rattle.std.proofs.lemmas.List.Sums.{fold-append}
use Rattle.std.specs.Iterator.Adapters.{take_steps}
use Rattle.candidates.specs.Members.{members}
use Rattle.candidates.specs.Sets.{inserted}
use Rattle.findings.specs.Summaries.{collected}
use Rattle.findings.proofs.found.front_of.Goals as goal

pub returns : goal.returns
returns c =
    let all = take c.args.count c.args.buffer.now in
    let front = YieldsList-from_take {s = c.take.result} c.args.count (YieldsList-from_slice c.args.buffer.now (search rules)) c.take.ensures.count in
    fold_over (take_steps fronts) (λ y. y.now) _ (λ ys set. members set ≡ collected [] ys) _ (λ ys set x next f' is called.
    let added : members next ≡ cond (ltb x.now 256) (inserted x.now (members set)) (members set) = search rules in
    (added ∙ ap (λ zs. cond (ltb x.now 256) (inserted x.now zs) zs) is ∙ sym (fold-append _ [] ys (x.now ∷ [])), search rules)) _ all _ _ front.runs c.empty.ensures.list c.fold.ensures.ran
