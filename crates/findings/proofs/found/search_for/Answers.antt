use Rattle.std.proofs.Common.{replicate, ◌∙◌, subst}
use Rattle.runs.specs.Calls.{Ceiling, Grant}
use Rattle.runs.specs.State.{start}
use Rattle.runs.proofs.Promised.{promised}
use Rattle.search.specs.Searching.{state_of}
use Rattle.findings.specs.Summaries.{Leads, noted, summary_of}
use Rattle.findings.proofs.Granting.{asked-all}
use Rattle.findings.proofs.Searches.{searched}
use Rattle.findings.proofs.Summing.{held-noted}
use Rattle.findings.proofs.found.search_for.Goals as goal

pub returns-clause-promise : goal.returns-clause-promise
returns-clause-promise g c = promised (g.S.Sheet.meaning c.args.sheet) (g.S.Sheet.lawful c.args.sheet) (g.R.Rule.value c.args.rule) (g.R.Rule.bounds c.args.rule)

pub returns-clause-found : goal.returns-clause-found
returns-clause-found g c =
    let m = g.S.Sheet.meaning c.args.sheet in
    let number = g.R.Rule.value c.args.rule in
    let law = g.S.Sheet.lawful c.args.sheet in
    let promise = promised m law number (g.R.Rule.bounds c.args.rule) in
    let new = c.new-search.result in
    let owned = c.new-search.ensures.owned in
    let calls = replicate c.args.grants (Grant 1000000) in
    let s = summary_of c.after_grants-found.result in
    let t = state_of c.after_grants-found.new.search in
    let leads : Leads m number (start m) calls s t =
    subst (λ u. Leads m number u calls s t) c.new-search.ensures.state
    (subst (λ rule. Leads m (g.R.Rule.value rule) (state_of new) calls s t) owned.1
    (subst (λ sheet. Leads (g.S.Sheet.meaning sheet) (g.R.Rule.value new.rule) (state_of new) calls s t) owned.0 c.after_grants-found.ensures)) in
    searched m law number promise c.args.grants _ ((λ i. noted (held-noted c.after_grants-found.result t.held (replicate 256 0) c.held_by.result c.unwrap_or.result c.held_by.ensures c.unwrap_or.ensures i) (Ceiling (c.ceiling.ensures i))) ∙ asked-all m number 1000000 c.args.grants 256 s t leads)
