use Rattle.std.proofs.Common.{◌/◌, ◌%◌, ◌^◌, eqb, sym, ap, ◌∙◌}
use lib.Bits.{and_mask}
use Rattle.std.proofs.lemmas.Bool.{le-ltb}
use Rattle.candidates.specs.Members.{bit}
use Rattle.candidates.proofs.Marks.{word, has-inside, has-outside}
use Rattle.candidates.proofs.set.CandidateSet.contains.Goals as goal

pub returns-then-k-lt256 : goal.returns-then-k-lt256
unfolding bit
returns-then-k-lt256 c =
    let k = c.args.k in
    ap (λ x. eqb x 1) (and_mask (word c.args.self (k / 64) / 2 ^ (k % 64)) 1) ∙ sym (has-inside c.args.self k c.if-k-lt256.true)

pub returns-else-k-lt256 : goal.returns-else-k-lt256
returns-else-k-lt256 c = le-ltb c.args.k 256 c.if-k-lt256.false ∙ sym (has-outside c.args.self c.args.k c.if-k-lt256.false)
