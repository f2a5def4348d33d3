use Rattle.std.proofs.Common.{◌∙◌}
use Rattle.runs.specs.Calls.{Grant, reply}
use Rattle.search.specs.Searching.{state_of}
use Rattle.findings.specs.Summaries.{noted, summary_of}
use Rattle.findings.proofs.Granting.{sofar-more, sofar-finished}
use Rattle.findings.proofs.found.Found.after_grants.Goals as goal

pub loop-preserved : goal.loop-preserved
loop-preserved g c =
    let search = c.args.search.now in
    let m = g.S.Sheet.meaning search.sheet in
    let number = g.R.Rule.value search.rule in
    let s = summary_of c.loop.found in
    let t = state_of c.loop.search in
    let inv = c.loop.invariant in
    let granted = c.granted-found.ensures in (
      sofar-more m number c.args.nodes c.args.grants (state_of search) c.loop.counter s t (summary_of c.granted-found.result) (state_of c.granted-found.new.search) c.requires c.loop-test.true c.if-found.false
          (granted.value ∙ (λ i. noted s (reply (g.S.Sheet.meaning (inv.1 i)) (g.R.Rule.value (inv.2 i)) t (Grant c.args.nodes)).answer))
          (granted.after ∙ (λ i. (reply (g.S.Sheet.meaning (inv.1 i)) (g.R.Rule.value (inv.2 i)) t (Grant c.args.nodes)).next))
          inv.0,
      granted.same.0 ∙ inv.1,
      granted.same.1 ∙ inv.2,
    )

pub returns-then-found : goal.returns-then-found
returns-then-found g c =
    let search = c.args.search.now in
    sofar-finished (g.S.Sheet.meaning search.sheet) (g.R.Rule.value search.rule) c.args.nodes c.args.grants (state_of search) c.loop.counter (summary_of c.loop.found) (state_of c.loop.search) c.if-found.true c.loop.invariant.0
