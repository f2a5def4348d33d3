-- Parts of a list: a part of a part, and a list as its parts of one width.
use Rattle.std.proofs.Common.{◌≡◌, ℕ, ◌+◌, ◌-◌, ◌≤◌, List, take, drop, ap, ◌∙◌, arith}
use Rattle.std.proofs.lemmas.List.{drop-take, drop-drop, take-take}
use Rattle.blocks.specs.Bytes.{part}

pub part-part : {X : Type 0} (w a width b : ℕ) (xs : List X) → a + w ≤ width → part w a (part width b xs) ≡ part w (b + a) xs
part-part w a width b xs within =
    let rest : width ≡ a + (width - a) = omega arith in
    let shorter : w ≤ width - a = omega arith in
    ap (λ n. take w (drop a (take n (drop b xs)))) rest ∙ (ap (take w) (drop-take a (width - a) (drop b xs)) ∙ (take-take w (width - a) (drop a (drop b xs)) shorter ∙ ap (take w) (drop-drop a b xs)))
