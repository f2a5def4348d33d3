use Rattle.std.proofs.Common.{◌≡◌, ℕ, ◌+◌, true, false, eqb, List, ◌∷◌, sym, ap, ◌∙◌, arith}
use mathlib.Core.Path.{fun_ext}
use Rattle.std.proofs.lemmas.Bool.{cond-true, eqb-true}
use Rattle.std.proofs.lemmas.Bool.Decides.{nat_tests}
use Rattle.candidates.specs.Members.{members}
use Rattle.candidates.specs.Sets.{is_in}
use Rattle.candidates.specs.Walk.{remaining}
use Rattle.candidates.proofs.Sets.{in-first}
use Rattle.candidates.proofs.Walk.{next-below, next-once}
use Rattle.sheets.specs.Meaning.{Meaning}
use Rattle.rules.specs.Colour.{rise, raised}
use Rattle.rules.specs.ColourBounds.{raised-le}
use Rattle.rules.specs.Noted.{at, noted}
use Rattle.rules.proofs.colour.raise.Goals as goal

pub add-requires-clause-place : goal.add-requires-clause-place
add-requires-clause-place g c = next-below _ _ _ c.in-Some.ensures.steps

pub add-requires-clause-room : goal.add-requires-clause-room
add-requires-clause-room g c =
    let m = g.S.Sheet.meaning c.args.sheet.now in
    let K = members c.args.class in
    let σ = at c.loop-v.sigma in
    let v = c.in-Some.v in
    let rest = remaining c.next.new.self in
    omega (
      arith,
      ap (λ τ. τ v) c.loop-v.invariant,
      ap (λ l. raised m K l σ v) c.in-Some.ensures.steps,
      cond-true (is_in v (v ∷ rest)) (σ v + rise m K v) (σ v) (in-first v rest),
      raised-le m (g.S.Sheet.lawful c.args.sheet.now) K (remaining c.into_iter-v-iterator.result) (at c.args.sigma.now) 33553408 c.requires v,
    )

-- v is raised
raised-more : (m : Meaning) (K : List ℕ) (σ : ℕ → ℕ) (v : ℕ) (rest : List ℕ) → is_in v rest ≡ false → raised m K rest (noted v (σ v + rise m K v) σ) ≡ raised m K (v ∷ rest) σ
raised-more m K σ v rest once = fun_ext each
  where
    each : (k : ℕ) → raised m K rest (noted v (σ v + rise m K v) σ) k ≡ raised m K (v ∷ rest) σ k
    each k =
        let here : eqb k v ≡ true → is_in k rest ≡ is_in v rest = λ e. ap (λ j. is_in j rest) (eqb-true k v e) in
        let same : eqb k v ≡ true → σ k + rise m K k ≡ σ v + rise m K v = λ e. ap (λ j. σ j + rise m K j) (eqb-true k v e) in
        grind (arith, nat_tests)

pub loop-v-preserved : goal.loop-v-preserved
loop-v-preserved g c =
    let m = g.S.Sheet.meaning c.args.sheet.now in
    let K = members c.args.class in
    let σ = at c.loop-v.sigma in
    let v = c.in-Some.v in
    let rest = remaining c.next.new.self in
    let next = c.in-Some.ensures.steps in
    ap (raised m K rest) (c.add.ensures ∙ ap (λ x. noted v (σ v + x) σ) c.rise.ensures)
    ∙ raised-more m K σ v rest (next-once _ _ _ next)
    ∙ ap (λ l. raised m K l σ) (sym next)
    ∙ c.loop-v.invariant

pub returns : goal.returns
returns g c =
    let rising = raised (g.S.Sheet.meaning c.args.sheet.now) (members c.args.class) in
    let begun = ap remaining c.into_iter-v-iterator.ensures.into_iter_gives ∙ c.iter-v-items.ensures in
    ap (λ l. rising l (at c.loop-v.sigma)) (sym c.in-None.ensures.steps.0) ∙ c.loop-v.invariant ∙ ap (λ l. rising l (at c.args.sigma.now)) begun
