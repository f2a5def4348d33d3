use Rattle.std.proofs.Common.{◌-◌, ◌/◌, ◌%◌, ◌^◌, not, eqb, ap, arith}
use lib.Bits.{bit_and}
use Rattle.std.proofs.lemmas.Nat.{one_shl}
use Rattle.candidates.proofs.Marks.{word, has-taken, has-still, members_kept}
use Rattle.candidates.proofs.set.CandidateSet.without.Goals as goal

pub returns-then-v-lt256 : goal.returns-then-v-lt256
returns-then-v-lt256 c =
    let s = c.args.self in
    let v = c.args.v in
    let marks = has-taken s v _ (omega arith) c.if-v-lt256.true (ap (λ x. bit_and (word s (v / 64)) (2 ^ 64 - 1 - x)) (one_shl (v % 64) 64 (omega arith))) in
    record { marks = marks; list = members_kept s _ (λ k. not (eqb k v)) marks }

pub returns-else-v-lt256 : goal.returns-else-v-lt256
returns-else-v-lt256 c =
    let marks = has-still c.args.self c.args.v c.if-v-lt256.false in
    record { marks = marks; list = members_kept c.args.self c.args.self (λ k. not (eqb k c.args.v)) marks }
