use Rattle.std.proofs.Common.{◌≡◌}
use Rattle.search.specs.Searching.{state_of}
use Rattle.search.proofs.Advance.{Advanced}
use Rattle.search.proofs.search.Search.advance.Given as goal

abbrev pub invariant-loop-done : goal.invariant-loop-done
invariant-loop-done g l =
    Advanced (g.S.Sheet.meaning l.initial.self.sheet) (g.R.Rule.value l.initial.self.rule) l.k (state_of l.initial.self) l.done (state_of l.self)
    × (l.self.sheet ≡ l.initial.self.sheet) × (l.self.rule ≡ l.initial.self.rule)
