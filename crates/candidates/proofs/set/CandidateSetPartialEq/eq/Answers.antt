use Rattle.std.proofs.Common.{◌^◌, ◌<◌, arith}
use Rattle.std.proofs.lemmas.Bool.Decides.{same_from_decides}
use Rattle.std.proofs.lemmas.Slice.Eq.{bytes_eq-Decides}
use Rattle.candidates.specs.Members.{members}
use Rattle.candidates.proofs.Marks.{word, each-four, same-decides, four-decide}
use Rattle.candidates.proofs.set.CandidateSetPartialEq.eq.Goals as goal

pub returns : goal.returns
returns c =
    let s = c.args.self.now in
    let t = c.args.other.now in
    let both =
    same-decides s t
    (record { four = omega arith; narrow = each-four (λ q. word s q < 2 ^ 64) (omega arith) (omega arith) (omega arith) (omega arith) })
    (record { four = omega arith; narrow = each-four (λ q. word t q < 2 ^ 64) (omega arith) (omega arith) (omega arith) (omega arith) })
    _ (four-decide s t) in
    record { value = same_from_decides _ _ both.0 (bytes_eq-Decides (members s) (members t)); list = both.0; same = both.1 }
