use Rattle.std.proofs.Common.{◌-◌, ◌^◌, ◌<◌, not, ◌&&◌, sym, refl, ap, ◌∙◌, arith}
use lib.Bits.{bit_and}
use Rattle.candidates.specs.Members.{bit, has, members}
use Rattle.candidates.specs.Sets.{is_in}
use Rattle.candidates.proofs.Bits.{bit-and, bit-complement}
use Rattle.candidates.proofs.Marks.{word, has-paired, is_in-members, members_kept, each-four}
use Rattle.candidates.proofs.set.CandidateSet.minus.Goals as goal

pub returns : goal.returns
returns c =
    let s = c.args.self in
    let t = c.args.other in
    let narrow = each-four (λ q. word t q < 2 ^ 64) (omega arith) (omega arith) (omega arith) (omega arith) in
    let marks = has-paired s t (λ a b. bit_and a (2 ^ 64 - 1 - b)) (λ a b. a && not b)
    (λ q j h l. bit-and (word s q) (2 ^ 64 - 1 - word t q) j ∙ ap (λ b. bit (word s q) j && b) (bit-complement 64 (word t q) j (narrow q h) l)) refl in
    record { marks = marks; list = members_kept s _ (λ k. not (is_in k (members t))) (λ k. marks k ∙ ap (λ b. has s k && not b) (sym (is_in-members t k))) }
