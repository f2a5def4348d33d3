use Rattle.std.proofs.Common.{◌-◌, ◌<◌, sym, ap, ◌∙◌, arith}
use Rattle.std.proofs.lemmas.Nat.{one_shl}
use Rattle.std.proofs.lemmas.Bool.{lt-ltb}
use Rattle.candidates.specs.Members.{bit}
use Rattle.candidates.proofs.Bits.{bit-low}
use Rattle.candidates.proofs.set.low_marks.Goals as goal

pub returns-then-n-lt64 : goal.returns-then-n-lt64
returns-then-n-lt64 c = λ k h. ap (λ w. bit (w - 1) k) (one_shl c.args.n 64 c.if-n-lt64.true) ∙ bit-low c.args.n k

pub returns-else-n-lt64 : goal.returns-else-n-lt64
returns-else-n-lt64 c = λ k h. let below : k < c.args.n = omega arith in bit-low 64 k ∙ lt-ltb k 64 h ∙ sym (lt-ltb k c.args.n below)
