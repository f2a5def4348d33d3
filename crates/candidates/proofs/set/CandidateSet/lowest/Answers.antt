use Rattle.std.proofs.Common.{sym, ap, arith}
use Rattle.candidates.specs.Sets.{least}
use Rattle.candidates.proofs.Marks.{lowest-in-word, nothing-from-words}
use Rattle.candidates.proofs.set.CandidateSet.lowest.Goals as goal

pub returns-then-word-ne0 : goal.returns-then-word-ne0
returns-then-word-ne0 c = sym (lowest-in-word c.args.self c.loop-i.i (omega arith) (omega arith) c.if-word-ne0.true c.loop-i.invariant)

pub returns : goal.returns
returns c = sym (ap least (nothing-from-words c.args.self (λ q h. c.loop-i.invariant q (omega arith))))
