use Rattle.std.proofs.Common.{rules, ◌≡◌, ℕ, zero, suc, ◌+◌, ◌-◌, ◌^◌, ◌<◌, ◌≤◌, min, List, length, get_or, refl, sym, ap, ◌∙◌, ⊎_elim, arith}
use Rattle.std.proofs.lemmas.Bool.{cases_eq, cases_lt}
use Rattle.std.proofs.lemmas.List.{get_or_past}
use Rattle.std.specs.Array.{IsFromFnResultFrom, IsFromFnResult}
use denote.Param.Members.{Mut, Called}
use Rattle.blocks.proofs.bytes.array_at.Goals as goal

module _ {F : Type 0} (g : Mut F (ℕ × Unit {0}) ℕ) (f : F) (ys : List ℕ) (h : ℕ → ℕ) (calls : (k y : ℕ) (q : F) → Called g f (k, tt) y q → (q ≡ f) × (y ≡ h k)) where
  made-each : (p : F) → p ≡ f → (i n : ℕ) → IsFromFnResultFrom g p ys i n → (k : ℕ) → i ≤ k → k < i + n → get_or ys k 0 ≡ h k
  made-each p is i zero made k low high = absurd (omega arith)
  made-each p is i (suc n) made k low high =
      let called = calls i made.1 made.0 (rw is at made.3) in
      ⊎_elim
      (λ (same : i ≡ k). rw (← same) (made.2.1 0 ∙ called.1))
      (λ (apart : i ≡ k → ⊥). made-each made.0 called.0 (i + 1) n made.4 k (omega arith) (omega arith))
      (cases_eq i k)

-- where each call leaves the closure as it is, the array holds what it computes at each index
from_fn-each : {F : Type 0} {g : Mut F (ℕ × Unit {0}) ℕ} {f : F} {ys : List ℕ} {n : ℕ} → IsFromFnResult g f ys n → (h : ℕ → ℕ) → ((k y : ℕ) (q : F) → Called g f (k, tt) y q → (q ≡ f) × (y ≡ h k)) → (k : ℕ) → k < n → get_or ys k 0 ≡ h k
from_fn-each {g = g} {f = f} {ys = ys} {n = n} made h calls k less = made-each g f ys h calls f refl 0 n made.each k (omega arith) (omega arith)

-- a place past the top of `usize` is past the end
get_or_saturated : (bs : List ℕ) (p s : ℕ) → length bs < 2 ^ 64 → s ≡ min p (2 ^ 64 - 1) → get_or bs s 0 ≡ get_or bs p 0
get_or_saturated bs p s short is =
    ⊎_elim
    (λ (fits : p < 2 ^ 64). ap (λ k. get_or bs k 0) (omega arith))
    (λ (past : 2 ^ 64 ≤ p). get_or_past bs s 0 (omega arith) ∙ sym (get_or_past bs p 0 (omega arith)))
    (cases_lt p (2 ^ 64))

pub returns : goal.returns
returns g c =
    let short : length c.args.bytes.now < 2 ^ 64 = omega arith in
    from_fn-each c.from_fn.ensures.items (λ k. get_or c.args.bytes.now (c.args.place + k) 0) (λ k y q called. (search rules, grind (arith, get_or_saturated)))
