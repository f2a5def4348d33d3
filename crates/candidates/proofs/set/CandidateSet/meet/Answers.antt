use Rattle.std.proofs.Common.{◌&&◌, sym, refl, ap, ◌∙◌}
use lib.Bits.{bit_and}
use Rattle.candidates.specs.Members.{has, members}
use Rattle.candidates.specs.Sets.{is_in}
use Rattle.candidates.proofs.Bits.{bit-and}
use Rattle.candidates.proofs.Marks.{word, has-paired, is_in-members, members_kept}
use Rattle.candidates.proofs.set.CandidateSet.meet.Goals as goal

pub returns : goal.returns
returns c =
    let s = c.args.self in
    let t = c.args.other in
    let marks = has-paired s t bit_and (λ a b. a && b) (λ q j h l. bit-and (word s q) (word t q) j) refl in
    record { marks = marks; list = members_kept s _ (λ k. is_in k (members t)) (λ k. marks k ∙ ap (λ b. has s k && b) (sym (is_in-members t k))) }
