-- Only one set goes into the accounts.
use Rattle.std.proofs.Common.{◌≡◌, ℕ, List, subst, inl, inr, arith}
use Rattle.candidates.specs.Order.{Earlier}
use Rattle.candidates.proofs.Order.{earlier-irreflexive, earlier-asymmetric, strict-total}
use Rattle.sheets.specs.Heaviest.{FirstHeaviest}
use Rattle.sheets.specs.Meaning.{Meaning}

-- of two that differ, each would be earlier than the other
not_earlier : (m : Meaning) (K J : List ℕ) (w : ℕ) → FirstHeaviest m K w → FirstHeaviest m J w → Earlier K J → ⊥
not_earlier m K J w k j e = earlier-asymmetric K J e (j.first K k.clique k.weighs (λ same. earlier-irreflexive J (rw same at e)))

pub only_one : (m : Meaning) (K J : List ℕ) (w x : ℕ) → FirstHeaviest m K w → FirstHeaviest m J x → (J ≡ K) × (w ≡ x)
only_one m K J w x k j =
    let same : w ≡ x = omega (arith, k.heaviest J j.clique, j.heaviest K k.clique, k.weighs, j.weighs) in
    let k' = subst (FirstHeaviest m K) same k in
    (elim (strict-total.total J K j.clique.ascending k.clique.ascending) [ inl is ↦ is | inr (inl e) ↦ absurd (not_earlier m J K x j k' e) | inr (inr e) ↦ absurd (not_earlier m K J x k' j e) ], same)
