use Rattle.std.proofs.Common.{◌≡◌, ℕ, not, ltb, List, [], ◌∷◌, length, rules, tests, arith, ◌∙◌}
use Rattle.std.specs.List.{prefix_len, position}
use Rattle.std.proofs.lemmas.Iterator.{YieldsList-from_slice}
use Rattle.std.proofs.lemmas.Iterator.Search.{position_from_yields_List}
use Rattle.std.proofs.lemmas.Bool.Decides.{nat_tests}
use Rattle.search.specs.Offers.{first_unfit}
use Rattle.search.proofs.search.offers.first_unfit.Goals as goal
use Rattle.sheets.specs.Cliques.{fits_all}
use Rattle.sheets.specs.Meaning.{Meaning}

not-not : (m : Meaning) (v : ℕ) (xs : List ℕ) → prefix_len (λ u. not (not (m.fit v u))) xs ≡ prefix_len (m.fit v) xs
not-not m v [] = grind (arith, nat_tests)
not-not m v (u ∷ xs) = let same = not-not m v xs in grind (arith, nat_tests)

ends : (m : Meaning) (v : ℕ) (xs : List ℕ) → ltb (prefix_len (m.fit v) xs) (length xs) ≡ not (fits_all m v xs)
ends m v [] = grind (arith, nat_tests)
ends m v (u ∷ xs) = let same = ends m v xs in grind (arith, nat_tests)

position-unfit : (m : Meaning) (v : ℕ) (xs : List ℕ) → position (λ u. not (m.fit v u)) xs ≡ first_unfit m v xs
position-unfit m v xs = let a = not-not m v xs in let b = ends m v xs in grind (arith, nat_tests)

pub returns : goal.returns
returns g c =
    let m = g.S.Sheet.meaning c.args.sheet.now in
    position_from_yields_List (λ u. not (m.fit c.args.v u)) _ _ c.position.result c.position.ensures.ran (YieldsList-from_slice c.args.before.now cc) (λ x r q k. search (rules, tests))
    ∙ position-unfit m c.args.v c.args.before.now
