use Rattle.std.proofs.Common.{◌≡◌, ◌^◌, ◌<◌, ◌∙◌, arith, rules, tests}
use lib.Count.{ones}
use Rattle.std.specs.List.{sum_by}
use Rattle.std.proofs.lemmas.Iterator.{YieldsList-from_slice, YieldsList-from_map}
use Rattle.std.proofs.lemmas.Iterator.Consumers.{YieldsList-at, sum_by_from_yields_List, fits_by_from_yields_list}
use Rattle.candidates.proofs.Bits.{ones-counts}
use Rattle.candidates.proofs.Marks.{marks_of, count-words, length-members}
use Rattle.candidates.proofs.set.CandidateSet.count.Goals as goal

pub sum-requires-clause-fits : goal.sum-requires-clause-fits
sum-requires-clause-fits c =
    let s = c.args.self in
    let few : sum_by (marks_of 64) s.words < 2 ^ 64 = omega (arith, count-words s (omega arith), length-members s) in
    fits_by_from_yields_list (marks_of 64) s.words c.map.result _ (YieldsList-from_map _ (marks_of 64) (YieldsList-at c.map.ensures.source (YieldsList-from_slice s.words c.iter.ensures.rest)) c.map.ensures.closure (λ x r q k.
    let small : x.now < 2 ^ 64 = search (rules, tests) in
    let is : r ≡ ones x.now = search (rules, tests) in
    (search (rules, tests), is ∙ ones-counts 64 x.now small))) few

pub returns : goal.returns
returns c =
    let s = c.args.self in
    sum_by_from_yields_List (marks_of 64) s.words _ c.sum.result c.sum.ensures.ran (YieldsList-from_map _ (marks_of 64) (YieldsList-at c.map.ensures.source (YieldsList-from_slice s.words c.iter.ensures.rest)) c.map.ensures.closure (λ x r q k.
    let small : x.now < 2 ^ 64 = search (rules, tests) in
    let is : r ≡ ones x.now = search (rules, tests) in
    (search (rules, tests), is ∙ ones-counts 64 x.now small))) ∙ count-words s (omega arith)
