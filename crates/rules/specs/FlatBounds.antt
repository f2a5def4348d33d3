-- The flat rule bounds: a part of S gains no more than S.
use Rattle.std.specs.Prelude.{ℕ, ◌*◌, ◌≤◌, List, [], ◌∷◌, length}
use Rattle.std.proofs.Common.{arith}
use Rattle.candidates.proofs.Sets.{sub-from-within}
use Rattle.sheets.specs.Weights.{total, rho}
use Rattle.sheets.proofs.Weights.{total-sub, weight-sub, weight-limit}
use Rattle.rules.specs.Bounds.{Bounds}
use Rattle.rules.specs.Flat.{flat}
use Rattle.rules.specs.Sums.{length-candidates, rho-candidates}

pub total-limit : (f : ℕ → ℕ) → ((v : ℕ) → f v ≤ 16776704) → (S : List ℕ) → total f S ≤ 16776704 * length S
total-limit f most [] = omega arith
total-limit f most (v ∷ S) = omega (arith, most v, total-limit f most S)

pub flat-bounds : Bounds flat
flat-bounds = record {
  covers = λ m law C S F c s clique within.
      let part = sub-from-within 0 0 F S clique.ascending s.ascending within in
      omega (arith, total-sub (rho m C) part, weight-sub m part);
  limit = λ m law C S c s.
      let short = length-candidates m law S s in
      omega (arith, total-limit (rho m C) (rho-candidates m law C c) S, weight-limit m law S short);
}
