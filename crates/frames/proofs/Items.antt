-- The top of a stack.
use Rattle.std.proofs.Common.{◌≡◌, ℕ, zero, suc, ◌-◌, ◌<◌, ◌≤◌, List, [], ◌∷◌, reverse, length, get_or, take, drop, is_some, Some, None, sym, refl, ap, ◌∙◌, arith}
use Rattle.frames.specs.Stacks.{top_of}
use Rattle.std.proofs.Math.Seq.{take-suc}
use Rattle.std.proofs.lemmas.List.{reverse-append}
use Rattle.std.proofs.lemmas.Bool.{false≢true}

-- of so many items the last comes first
pub reverse-taken : {F : Type 0} (items : List F) (count : ℕ) (d : F) → 0 < count → count ≤ length items → reverse (take count items) ≡ get_or items (count - 1) d ∷ reverse (take (count - 1) items)
reverse-taken items zero d some room = absurd (omega (arith, some))
reverse-taken items (suc n) d some room =
    let less : suc n - 1 ≡ n = omega arith in
    rw less (ap reverse (take-suc items n d (omega arith)) ∙ reverse-append (take n items) (get_or items n d ∷ []))

pub reverse-less : {F : Type 0} (items : List F) (count : ℕ) → count ≤ length items → reverse (take (count - 1) items) ≡ drop 1 (reverse (take count items))
reverse-less items zero room = refl
reverse-less [] (suc n) room = absurd (omega (arith, room))
reverse-less (f ∷ items) (suc n) room = ap (drop 1) (sym (reverse-taken (f ∷ items) (suc n) f (omega arith) room))

pub cons-from-top : {F : Type 0} (f : F) (fs : List F) → Some f ≡ top_of fs → fs ≡ f ∷ drop 1 fs
cons-from-top f [] e = absurd (false≢true (ap is_some (sym e)))
cons-from-top f (h ∷ below) e = let same : f ≡ h = cc in ap (λ x. x ∷ below) (sym same)

pub nothing-from-top : {F : Type 0} (fs : List F) → None ≡ top_of fs → fs ≡ []
nothing-from-top [] e = refl
nothing-from-top (f ∷ below) e = absurd (false≢true (ap is_some e))
