use Rattle.std.proofs.Common.{◌≡◌, ℕ, Some, None, Decides, Option, sym, ap, ◌∙◌}
use Rattle.candidates.specs.declared.set.CandidateSet.{CandidateSet}
use Rattle.candidates.specs.Members.{members}
use Rattle.candidates.specs.Order.{Earlier}
use Rattle.candidates.specs.Sets.{least, without}
use Rattle.candidates.proofs.Marks.{members-from}
use Rattle.candidates.proofs.Order.{precedes, earlier-decides, strict-total}
use Rattle.candidates.proofs.set.CandidateSet.earlier.Goals as goal

-- what the two lowest members say
told : (s t : CandidateSet) (x y : Option ℕ) → x ≡ least (without (members s) (members t)) → y ≡ least (without (members t) (members s)) → Decides (precedes x y) (Earlier (members s) (members t))
told s t x y is also = rw (is, also) (earlier-decides (members s) (members t) (members-from s) (members-from t))

pub returns-in-Some-Some : goal.returns-in-Some-Some
returns-in-Some-Some c = record {
  value = told c.args.self c.args.other (Some c.in-Some-Some.mine) (Some c.in-Some-Some.theirs) (c.in-Some-Some.ensures ∙ ap least c.minus.ensures.list) (c.in-Some-Some.ensures' ∙ ap least c.minus-2.ensures.list);
  order = strict-total;
}

pub returns-in-Some-None : goal.returns-in-Some-None
returns-in-Some-None c = record {
  value = told c.args.self c.args.other (Some c.in-Some-None.field-0-0) None (c.in-Some-None.ensures ∙ ap least c.minus.ensures.list) (c.in-Some-None.ensures' ∙ ap least c.minus-2.ensures.list);
  order = strict-total;
}

pub returns-in-None-default : goal.returns-in-None-default
returns-in-None-default c = record {
  value = told c.args.self c.args.other None c.lowest-2.result (sym c.in-None-default.is-0 ∙ c.lowest.ensures ∙ ap least c.minus.ensures.list) (c.lowest-2.ensures ∙ ap least c.minus-2.ensures.list);
  order = strict-total;
}
