use Rattle.std.proofs.Common.{◌≡◌, ℕ, ◌&&◌, ltb}
use Rattle.candidates.specs.Members.{has}
use Rattle.sheets.proofs.sheet.Sheet.fitting.Given as goal

-- the marks below u are right, and there is none from u on
abbrev pub invariant-loop-u : goal.invariant-loop-u
invariant-loop-u g l = (k : ℕ) → has l.set k ≡ (ltb k l.u && (g.Self.Sheet.meaning l.self).fit l.v k)
