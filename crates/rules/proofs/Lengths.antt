-- The lengths of the path rule, one member after another.
use Rattle.std.proofs.Common.{◌≡◌, ℕ, suc, ◌<◌, max, true, List, [], ◌∷◌, ◌++◌, ap, ◌∙◌, arith}
use Rattle.std.proofs.lemmas.Bool.{false≢true}
use Rattle.std.proofs.lemmas.Bool.Decides.{nat_tests}
use Rattle.candidates.specs.Sets.{is_in, Ascending, From, inserted}
use Rattle.candidates.proofs.Sets.{in-first, in-from, inserted-last, is_in-append}
use Rattle.sheets.specs.Meaning.{Meaning}
use Rattle.rules.specs.Noted.{noted}
use Rattle.rules.specs.Path.{length_of, longest}

lower-below : (a k v : ℕ) (lower higher : List ℕ) → From a (lower ++ v ∷ higher) → is_in k lower ≡ true → k < v
lower-below a k v [] higher up e = absurd (false≢true e)
lower-below a k v (x ∷ lower) higher up e =
    let next = in-from (suc x) v (lower ++ v ∷ higher) up.1 in
    let there = is_in-append v lower (v ∷ higher) in
    let first = in-first v higher in
    let more = lower-below (suc x) k v lower higher up.1 in
    grind (arith, nat_tests)

-- the next member goes behind the lower ones
pub inserted-next : (v : ℕ) (lower higher : List ℕ) → Ascending (lower ++ v ∷ higher) → inserted v lower ≡ lower ++ v ∷ []
inserted-next v lower higher up = inserted-last v lower (λ k. lower-below 0 k v lower higher up)

pub longest-more : (m : Meaning) (C lower : List ℕ) (ℓ : ℕ → ℕ) (v : ℕ) (higher : List ℕ) (most x : ℕ) → x ≡ length_of m C lower ℓ v → max (max most x) (longest m C (lower ++ v ∷ []) (noted v x ℓ) higher) ≡ max most (longest m C lower ℓ (v ∷ higher))
longest-more m C lower ℓ v higher most x is = ap (λ y. max (max most y) (longest m C (lower ++ v ∷ []) (noted v y ℓ) higher)) is ∙ omega arith
