use Rattle.std.proofs.Common.{◌≡◌, ℕ, min, List, [], is_some, Some, None, Option, unwrap_or, sym, refl, ap, ◌∙◌, subst, arith}
use Rattle.std.proofs.lemmas.Bool.{false≢true}
use Rattle.candidates.specs.Members.{members}
use Rattle.candidates.specs.Sets.{counting}
use Rattle.sheets.specs.declared.pairing.Pairing.{Pairing}
use Rattle.exhaustive.specs.Explored.{Explored, held_of}
use Rattle.exhaustive.proofs.Frames.{explored-start}
use Rattle.exhaustive.proofs.pairing.best_pairing.Given as given
use Rattle.exhaustive.proofs.pairing.best_pairing.Goals as goal
use Rattle.exhaustive.proofs.pairing.best_pairing.Goals.{After-first, After-explore}
use Rattle.sheets.specs.Heaviest.{FirstHeaviest}
use Rattle.sheets.specs.Meaning.{Meaning}
use Rattle.sheets.proofs.Comes.{open-start}
use Rattle.sheets.proofs.Heaviest.{only_one}

-- the first frame: the empty set, and all candidates
all-is : (g : given.Over) (c : After-first g) → members c.first.result ≡ counting 0 (g.S.Sheet.meaning c.args.sheet.now).size
all-is g c =
    let most = (g.S.Sheet.lawful c.args.sheet.now).most in
    let whole : min c.size.result 256 ≡ (g.S.Sheet.meaning c.args.sheet.now).size = omega (arith, c.size.ensures) in
    c.first.ensures.list ∙ ap (counting 0) whole

-- a set is held at the end, and it is the one
told : (m : Meaning) (r : Option Pairing) → Explored m [] (counting 0 m.size) None (held_of r) → (p : Pairing) × (r ≡ Some p) × FirstHeaviest m (members p.set) p.points
told m r e = by r (explored-start m (held_of r) e)
  where
    by : (r : Option Pairing) → (K : List ℕ) × (w : ℕ) × (held_of r ≡ Some (K, w)) × FirstHeaviest m K w → (p : Pairing) × (r ≡ Some p) × FirstHeaviest m (members p.set) p.points
    by None h = absurd (false≢true (ap is_some h.2))
    by (Some p) h =
        let same : ◌≡◌ {A = List ℕ × ℕ} (members p.set, p.points) (h.0, h.1) = ap (λ o. unwrap_or o (h.0, h.1)) h.2 in
        (p, refl, subst (λ (x : List ℕ × ℕ). FirstHeaviest m x.0 x.1) (sym same) h.3)

pub explore-requires : goal.explore-requires
explore-requires g c = rw (c.empty.ensures.list, all-is g (goal.at.explore-requires g c).After-first) (open-start (g.S.Sheet.meaning c.args.sheet.now))

explored : (g : given.Over) (c : After-explore g) → Explored (g.S.Sheet.meaning c.args.sheet.now) [] (counting 0 (g.S.Sheet.meaning c.args.sheet.now).size) None (held_of c.explore.result)
explored g c = rw (c.empty.ensures.list, all-is g (goal.at.unwrap-requires g c).After-first) at c.explore.ensures

pub unwrap-requires : goal.unwrap-requires
unwrap-requires g c = ap is_some (told (g.S.Sheet.meaning c.args.sheet.now) c.explore.result (explored g c)).1

pub returns : goal.returns
returns g c =
    let m = g.S.Sheet.meaning c.args.sheet.now in
    let p = c.unwrap.result in
    let found = told m c.explore.result (explored g (goal.at.returns g c).After-explore) in
    let same : found.0 ≡ p = ap (λ o. unwrap_or o p) (sym found.1 ∙ c.unwrap.ensures) in
    let h = subst (λ (q : Pairing). FirstHeaviest m (members q.set) q.points) same found.2 in
    record { heaviest = h; only = λ K w other. let one = only_one m K (members p.set) w p.points other h in (sym one.0, one.1) }
