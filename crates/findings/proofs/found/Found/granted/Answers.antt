use Rattle.std.proofs.Common.{ap, arith}
use Rattle.runs.specs.Calls.{Grant}
use Rattle.runs.specs.Promise.{nodes_of}
use Rattle.runs.proofs.Limits.{reply-limit}
use Rattle.search.specs.Searching.{state_of}
use Rattle.findings.proofs.found.Found.granted.Goals as goal

pub overflow_add-result : goal.overflow_add-result
overflow_add-result g c =
    let search = c.args.search.now in
    omega (arith, c.requires, ap (λ r. nodes_of r.answer) c.in-Ok.ensures.value, reply-limit (g.S.Sheet.meaning search.sheet) (g.R.Rule.value search.rule) (state_of search) (Grant c.args.nodes))
