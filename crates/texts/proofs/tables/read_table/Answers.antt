use Rattle.std.proofs.Common.{rules}
use Rattle.texts.proofs.Laws.{faithful-answers}
use Rattle.texts.proofs.tables.read_table.Goals as goal

pub returns-in_err-entries-clause-faithful : goal.returns-in_err-entries-clause-faithful
returns-in_err-entries-clause-faithful c = faithful-answers _ _ (search rules)

pub returns-then-is_empty-clause-faithful : goal.returns-then-is_empty-clause-faithful
returns-then-is_empty-clause-faithful c = faithful-answers _ _ (search rules)

pub returns-clause-faithful : goal.returns-clause-faithful
returns-clause-faithful c = faithful-answers _ _ (search rules)
