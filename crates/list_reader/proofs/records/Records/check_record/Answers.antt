use Rattle.std.proofs.Common.{◌≡◌, ◌/◌, ◌%◌, get_or, ap, arith}
use Rattle.std.proofs.lemmas.Bool.Decides.{nat_tests}
use Rattle.blocks.specs.Questions.{record_questions}
use Rattle.list_reader.proofs.records.Records.check_record.Goals as goal
use Rattle.list_reader.proofs.records.Records.check_record.Goals.{then-u-v-via-then-u-v, then-u-v-via-else-u-v+then-v-byte_at}

pub returns-then-u-v : goal.returns-then-u-v
unfolding record_questions
returns-then-u-v c =
    let low : get_or c.to_le_bytes.result 0 0 ≡ c.key-key.result % 256 = ap (λ bs. get_or bs 0 0) c.to_le_bytes.ensures in
    let high : get_or c.to_le_bytes.result 1 0 ≡ c.key-key.result / 256 % 256 = ap (λ bs. get_or bs 1 0) c.to_le_bytes.ensures in
    elim c.then-u-v.branch [ then-u-v-via-then-u-v w ↦ grind (arith, nat_tests) | then-u-v-via-else-u-v+then-v-byte_at w ↦ grind (arith, nat_tests) ]
