use Rattle.std.proofs.Common.{◌≡◌}
use Rattle.search.specs.Searching.{state_of}
use Rattle.findings.specs.Summaries.{summary_of}
use Rattle.findings.proofs.Granting.{Sofar}
use Rattle.findings.proofs.found.Found.after_grants.Given as goal

abbrev pub invariant-loop : goal.invariant-loop
invariant-loop g l =
    Sofar (g.S.Sheet.meaning l.initial.search.sheet) (g.R.Rule.value l.initial.search.rule) l.nodes l.grants (state_of l.initial.search) l.counter (summary_of l.found) (state_of l.search)
    × (l.search.sheet ≡ l.initial.search.sheet) × (l.search.rule ≡ l.initial.search.rule)
