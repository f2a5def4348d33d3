use Rattle.std.proofs.Common.{◌/◌, ◌%◌, sym, ap, ◌∙◌, arith}
use lib.Bits.{bit_or}
use Rattle.std.proofs.lemmas.Nat.{one_shl}
use Rattle.std.proofs.lemmas.Bool.{lt-ltb, cond-true}
use Rattle.candidates.specs.Members.{members}
use Rattle.candidates.specs.Sets.{inserted}
use Rattle.candidates.proofs.Marks.{word, has-added, members-added}
use Rattle.candidates.proofs.set.CandidateSet.with.Goals as goal

pub returns-then-v-lt256 : goal.returns-then-v-lt256
returns-then-v-lt256 c =
    let s = c.args.self in
    let v = c.args.v in
    let h = c.if-v-lt256.true in
    let marks = has-added s v _ (omega arith) h (ap (bit_or (word s (v / 64))) (one_shl (v % 64) 64 (omega arith))) in
    record { marks = marks; list = members-added s _ v h marks ∙ sym (cond-true _ (inserted v (members s)) (members s) (lt-ltb v 256 h)) }
