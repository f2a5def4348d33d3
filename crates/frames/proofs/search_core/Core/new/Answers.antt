use Rattle.std.proofs.Common.{◌≡◌, ℕ, min, List, [], ◌∷◌, map, ap, ◌∙◌, arith}
use Rattle.candidates.specs.Sets.{counting}
use Rattle.candidates.proofs.Sets.{length-counting}
use Rattle.frames.specs.Shown.{shown, frames_of, reach}
use Rattle.frames.proofs.search_core.Core.new.Given as given
use Rattle.frames.proofs.search_core.Core.new.Goals as goal
use Rattle.frames.proofs.search_core.Core.new.Goals.{After-of}
use Rattle.runs.specs.State.{frame, start, state}
use Rattle.sheets.specs.Meaning.{Meaning, Lawful}
use Rattle.sheets.specs.Weights.{weight}

start-frame : (m : Meaning) → Lawful m → (n : ℕ) → n ≡ m.size → (C S : List ℕ) (mark : ℕ) → C ≡ [] → S ≡ counting 0 (min n 256) → mark ≡ weight m S → frame C S mark ≡ frame [] (counting 0 m.size) (weight m (counting 0 m.size))
start-frame m law n size C S mark none all sum =
    let whole : min n 256 ≡ m.size = omega (arith, law.most) in
    let rest = all ∙ ap (counting 0) whole in
    λ i. frame (none i) (rest i) ((sum ∙ ap (weight m) rest) i)

-- the one frame
frames-start : (g : given.Over) (c : After-of g) → frames_of c.of.result ≡ (start (g.S.Sheet.meaning c.args.sheet.now)).stack
frames-start g c =
    let m = g.S.Sheet.meaning c.args.sheet.now in
    ap (map shown) c.of.ensures
    ∙ ap (λ f. f ∷ []) (start-frame m (g.S.Sheet.lawful c.args.sheet.now) c.size.result c.size.ensures _ _ _ c.empty-clique.ensures.list c.first-rest.ensures.list c.weight-mark.ensures.value)

pub invariant_of-result : goal.invariant_of-result
invariant_of-result g c =
    let m = g.S.Sheet.meaning c.args.sheet.now in
    omega (arith, ap reach (frames-start g (goal.at.invariant_of-result g c).After-of), length-counting 0 m.size, (g.S.Sheet.lawful c.args.sheet.now).most)

pub returns : goal.returns
returns g c = ap (state _) (frames-start g (goal.at.returns g c).After-of)
