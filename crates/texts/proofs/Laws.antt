-- What reading a table promises follows from what it answers.
use Rattle.std.proofs.Common.{ℕ, List, None, Result, subst}
use Rattle.texts.specs.declared.faults.TextFault.{TextFault}
use Rattle.texts.specs.declared.tables.Table.{Table}
use Rattle.texts.specs.Reading.{scanned, tabled, numbers, read, Answers}
use Rattle.texts.specs.Faithful.{Faithful}
use Rattle.texts.proofs.Written.{scanned-writes}
use Rattle.texts.proofs.Guarded.{guards-scanned, guards-tabled, guards-answers}

pub faithful-answers : (text : List ℕ) (r : Result Table TextFault) → Answers (read text) numbers r → Faithful text r
faithful-answers text r answers =
    record {
      written = λ xs writes. subst (λ said. Answers (tabled said) numbers r) (scanned-writes writes 0) answers;
      guarded = guards-answers text (read text) r (guards-tabled text 0 (scanned text 0 None) (guards-scanned text 0 None)) answers;
    }
