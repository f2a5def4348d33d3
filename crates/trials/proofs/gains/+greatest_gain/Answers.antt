use Rattle.std.proofs.Common.{length, ap, arith}
use Rattle.candidates.specs.Members.{members}
use Rattle.candidates.specs.Sets.{is_in}
use Rattle.candidates.proofs.Marks.{members-lowest}
use Rattle.candidates.proofs.Sets.{length-sub, sub-kept-by}
use Rattle.trials.proofs.gains.+greatest_gain.Goals as goal

pub greatest_gain-with-requires : goal.greatest_gain-with-requires
greatest_gain-with-requires g t c κs within =
    let next = c.without-rest.result in
    let fits = c.fitting.result in
    let taken = ap length (members-lowest c.args.rest next c.in-Some.v c.in-Some.ensures c.without-rest.ensures.list) in
    let fewer = length-sub (sub-kept-by (λ k. is_in k (members fits)) (members next)) in
    (omega (arith, c.decreases, ap length c.meet.ensures.list), within)

pub greatest_gain-requires : goal.greatest_gain-requires
greatest_gain-requires g t c κs within =
    (omega (arith, c.decreases, ap length (members-lowest c.args.rest c.without-rest.result c.in-Some.v c.in-Some.ensures c.without-rest.ensures.list)), within)
