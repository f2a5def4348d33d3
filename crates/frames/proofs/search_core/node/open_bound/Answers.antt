use Rattle.std.proofs.Common.{◌≡◌, ℕ, ◌≤◌, Bool, true, false, cond, leb, is_some, Some, None, sym, ap, arith}
use Rattle.std.proofs.lemmas.Bool.{false≢true}
use Rattle.candidates.specs.declared.set.CandidateSet.{CandidateSet}
use Rattle.candidates.specs.Members.{members}
use Rattle.candidates.proofs.Marks.{members-from}
use Rattle.frames.proofs.search_core.node.open_bound.Goals as goal
use Rattle.frames.proofs.search_core.node.open_bound.Goals.{in-Some+in_ok-number-in-Some, in_default}
use Rattle.rules.specs.Bounds.{Number, Bounds, inside, over}
use Rattle.rules.proofs.Inside.{inside-candidates}
use Rattle.sheets.specs.Meaning.{Meaning, Lawful}

number-limit : (m : Meaning) → Lawful m → (number : Number) → Bounds number → (c s : CandidateSet) → number m (inside m (members c)) (inside m (members s)) ≤ 1099511627775
number-limit m law number bounds c s =
    bounds.limit m law (inside m (members c)) (inside m (members s)) (inside-candidates m (members c) (members-from c)) (inside-candidates m (members s) (members-from s))

over-same : (limit number x : ℕ) → Some x ≡ over limit number → x ≡ number
over-same limit number x = at (leb number limit)
  where
    at : (b : Bool) → Some x ≡ cond b None (Some number) → x ≡ number
    at true e = absurd (false≢true (ap is_some (sym e)))
    at false e = cc

pub overflow_add-result : goal.overflow_add-result
overflow_add-result g c =
    let m = g.S.Sheet.meaning c.args.sheet.now in
    let number = g.R.Rule.value c.args.rule.now in
    let limit = number-limit m (g.S.Sheet.lawful c.args.sheet.now) number (g.R.Rule.bounds c.args.rule.now) c.args.top.clique c.args.top.rest in
    let weight = c.weight-weight.ensures.bound in
    elim c.match-core.branch [
      | in-Some+in_ok-number-in-Some w ↦ let is = over-same _ _ _ w.in_ok-number-in-Some.ensures in omega (arith, weight, limit)
      | in_default w ↦ omega (arith, weight, limit)
    ]
