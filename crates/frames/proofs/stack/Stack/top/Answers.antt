use Rattle.std.proofs.Common.{◌≡◌, ℕ, ◌-◌, ◌<◌, ◌≤◌, List, ◌∷◌, reverse, length, take, drop, set, sym, ap, ◌∙◌, arith}
use Rattle.frames.specs.Stacks.{top_of}
use Rattle.std.proofs.lemmas.List.{length-set, take-set, get_or-set_same}
use Rattle.frames.proofs.Items.{reverse-taken}
use Rattle.frames.proofs.stack.Stack.top.Goals as goal
use base.Fml.{GName}
use mathlib.Core.Logic.{◌⊎◌, inl}

-- a part is lent alike by functions that are alike
lent : {F S : Type 0} (name : GName) (a b : F → S) → ((f : F) → a f ≡ b f) → ◌≡◌ {A = (GName × (F → S)) ⊎ S} (inl (name, a)) (inl (name, b))
lent name a b same = λ i. inl (name, λ f. same f i)

top-set : {F : Type 0} (items : List F) (count : ℕ) (f : F) → 0 < count → count ≤ length items → reverse (take count (set items (count - 1) f)) ≡ f ∷ drop 1 (reverse (take count items))
top-set items count f some room =
    let i = count - 1 in
    reverse-taken (set items i f) count f some (omega (arith, room, length-set items i f))
    ∙ (λ j. get_or-set_same items i f f (omega arith) j ∷ reverse (take-set items i f j))
    ∙ ap (λ xs. f ∷ drop 1 xs) (sym (reverse-taken items count f some room))

pub returns-else-self-eq0 : goal.returns-else-self-eq0
returns-else-self-eq0 g c =
    let inside = c.self.inside in
    let some : 0 < inside.count = omega arith in
    let room : inside.count ≤ length inside.items = omega (arith, c.self.invariant.0, c.self.invariant.1) in (
      lent _ _ _ (λ f. top-set inside.items inside.count f some room ∙ ap (λ fs. f ∷ drop 1 fs) c.self.view_is),
      record { changes = tt; value = ap top_of (sym (reverse-taken inside.items inside.count c.index-self-self.result some room) ∙ c.self.view_is) },
    )
