use Rattle.std.proofs.Common.{◌≡◌, ◌≤◌, Bool, true, false, ◌&&◌, ltb, ◌∷◌, Decides, sym, ap, ◌∙◌, arith}
use Rattle.std.proofs.lemmas.Bool.{le-ltb, lt-ltb, and_left, and_right}
use Rattle.std.proofs.lemmas.Bool.Decides.{Decides-at}
use Rattle.candidates.specs.declared.set.CandidateSet.{CandidateSet}
use Rattle.candidates.specs.Members.{members}
use Rattle.candidates.specs.Sets.{least}
use Rattle.candidates.proofs.Marks.{members-lowest, members-from}
use Rattle.sheets.specs.Cliques.{Clique, fits_all, is_clique}
use Rattle.sheets.specs.Meaning.{Meaning, Lawful}
use Rattle.sheets.proofs.Cliques.{is_clique-decides}
use Rattle.sheets.proofs.sums.is_clique.Given as given
use Rattle.sheets.proofs.sums.is_clique.Goals as goal
use Rattle.sheets.proofs.sums.is_clique.Goals.{After-without-rest, then-v-size-via-then-v-size, then-v-size-via-else-v-size+then-not-fits_all}

-- what was left is v and what is left now
taken : (g : given.Over) (c : After-without-rest g) → members c.loop-v.rest ≡ c.in-Some.v ∷ members c.without-rest.result
taken g c = members-lowest c.loop-v.rest c.without-rest.result c.in-Some.v (sym (ap least (c.loop-v.invariant.0 ∙ c.in-Some.ensures.steps))) c.without-rest.ensures.list

judged : (m : Meaning) → Lawful m → (s : CandidateSet) (b : Bool) → b ≡ is_clique m (members s) → Decides b (Clique m (members s))
judged m law s b is = Decides-at b (is_clique m (members s)) is (is_clique-decides m law 0 (members s) (members-from s))

pub returns-then-v-size-clause-value : goal.returns-then-v-size-clause-value
returns-then-v-size-clause-value g c =
    let m = g.S.Sheet.meaning c.args.sheet.now in
    let v = c.in-Some.v in
    let K = members c.without-rest.result in
    let fails : is_clique m (v ∷ K) ≡ false =
    elim c.then-v-size.branch [
      | then-v-size-via-then-v-size w ↦ let out : m.size ≤ v = omega (arith, w.if-v-size.true) in and_left (ltb v m.size) (fits_all m v K && is_clique m K) (le-ltb v m.size out)
      | then-v-size-via-else-v-size+then-not-fits_all w ↦ and_right (ltb v m.size) (fits_all m v K && is_clique m K) (and_left (fits_all m v K) (is_clique m K) (sym w.if-not-fits_all.ensures))
    ] in
    judged m (g.S.Sheet.lawful c.args.sheet.now) c.args.set false (sym fails ∙ ap (is_clique m) (sym (taken g (goal.at.returns-then-v-size-clause-value g c).After-without-rest)) ∙ c.loop-v.invariant.1)

pub loop-v-preserved : goal.loop-v-preserved
loop-v-preserved g c =
    let m = g.S.Sheet.meaning c.args.sheet.now in
    let v = c.in-Some.v in
    let K = members c.without-rest.result in
    let left = taken g (goal.at.loop-v-preserved g c).After-without-rest in
    let here : ltb v m.size ≡ true = lt-ltb v m.size (omega arith) in
    let fits : fits_all m v K ≡ true = sym c.if-not-fits_all.ensures in
    (cc (left, c.loop-v.invariant.0, c.in-Some.ensures.steps), sym (λ i. here i && (fits i && is_clique m K)) ∙ ap (is_clique m) (sym left) ∙ c.loop-v.invariant.1)

pub returns-clause-value : goal.returns-clause-value
returns-clause-value g c =
    let m = g.S.Sheet.meaning c.args.sheet.now in
    judged m (g.S.Sheet.lawful c.args.sheet.now) c.args.set true (sym (ap (is_clique m) (c.loop-v.invariant.0 ∙ c.in-None.ensures.steps.0)) ∙ c.loop-v.invariant.1)
