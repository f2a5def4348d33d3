-- The sums and tests over the bytes of a block.
use Rattle.std.proofs.Common.{◌≡◌, ℕ, zero, suc, ◌+◌, ◌-◌, ◌*◌, ◌<◌, ◌≤◌, ◌&&◌, eqb, List, [], ◌∷◌, length, get_or, drop, refl, ap, add-one, arith}
use Rattle.std.specs.List.{list_all}
use Rattle.std.proofs.lemmas.List.{get_or_past}
use Rattle.candidates.specs.Sets.{counting}
use Rattle.sheets.specs.Weights.{total}
use Rattle.blocks.specs.Bytes.{all_zero}
use Rattle.blocks.specs.Format.{weighed}

pub counting_more : (i n : ℕ) → i < n → counting i (n - i) ≡ i ∷ counting (i + 1) (n - (i + 1))
counting_more i n less =
    let step : n - i ≡ suc (n - (i + 1)) = omega arith in rw (step, add-one)

module _ (bs : List ℕ) where
  pub weighed-more : (i n : ℕ) → i < n → weighed bs i (n - i) ≡ (i + 1) * get_or bs i 0 + weighed bs (i + 1) (n - (i + 1))
  unfolding weighed
  weighed-more i n less = ap (total (λ k. (k + 1) * get_or bs k 0)) (counting_more i n less)

  -- past the end bytes are 0
  pub weighed_past : (i n : ℕ) → (0 < n → length bs ≤ i) → weighed bs i n ≡ 0
  unfolding weighed
  weighed_past i zero past = refl
  weighed_past i (suc n) past =
      rw (get_or_past bs i 0 (past (omega arith))) (omega (arith, weighed_past (suc i) n (λ _. omega (arith, past (omega arith)))))

-- the byte at a place is the first of what is left there
pub left-more : (bs rest : List ℕ) (i b : ℕ) → drop i bs ≡ b ∷ rest → (b ≡ get_or bs i 0) × (rest ≡ drop (i + 1) bs)
left-more [] rest zero b is = absurd cc
left-more [] rest (suc i) b is = absurd cc
left-more (x ∷ bs) rest zero b is = (cc, cc)
left-more (x ∷ bs) rest (suc i) b is = rw add-one (rw add-one at (left-more bs rest i b is))

-- whether all bytes of a part are zero, asked one by one
pub all_zero-list_all : (bs : List ℕ) → list_all (λ b. eqb b 0) bs ≡ all_zero bs
unfolding all_zero
all_zero-list_all [] = refl
all_zero-list_all (b ∷ bs) = ap (λ rest. eqb b 0 && rest) (all_zero-list_all bs)
