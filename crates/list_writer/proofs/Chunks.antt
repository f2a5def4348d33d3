-- A list as its parts of one width.
use Rattle.std.proofs.Common.{◌≡◌, ℕ, zero, suc, ◌+◌, ◌*◌, ◌<◌, ◌≤◌, List, [], ◌∷◌, ◌++◌, map, length, get_or, take, drop, sym, refl, ap, ◌∙◌, ap₂, mul-suc, arith, take-add}
use Rattle.std.specs.List.{flat_map}
use Rattle.std.proofs.lemmas.List.{append_assoc, drop_at, drop-drop, get_or-drop, get_or-take, take_at}
use Rattle.candidates.specs.Sets.{counting}
use Rattle.blocks.specs.Bytes.{part}
use Rattle.blocks.proofs.Parts.{part-part}

-- what was joined from pieces of one width falls apart into them
pub part-joined : {X : Type 0} (f : X → List ℕ) (w : ℕ) → ((x : X) → length (f x) ≡ w) → (xs : List X) (rest : List ℕ) (i : ℕ) (d : X) → i < length xs → part w (w * i) (flat_map f xs ++ rest) ≡ f (get_or xs i d)
part-joined f w each [] rest i d inside = absurd (omega arith)
part-joined f w each (x ∷ xs) rest zero d inside =
    let none : w * 0 ≡ 0 = omega arith in
    ap (λ n. take w (drop n ((f x ++ flat_map f xs) ++ rest))) none ∙ (ap (take w) (append_assoc (f x) (flat_map f xs) rest) ∙ take_at (f x) (flat_map f xs ++ rest) w (each x))
part-joined f w each (x ∷ xs) rest (suc i) d inside =
    let step : w * suc i ≡ w + w * i = omega (arith, mul-suc w i) in
    let more : List ℕ = flat_map f xs ++ rest in
    ap₂ (λ n zs. take w (drop n zs)) step (append_assoc (f x) (flat_map f xs) rest) ∙ (ap (take w) (sym (drop-drop (w * i) w (f x ++ more))) ∙ (ap (λ zs. take w (drop (w * i) zs)) (drop_at (f x) more w (each x)) ∙ part-joined f w each xs rest i d (omega arith)))

-- and its parts joined are the list again
pub joined-parts : (w : ℕ) (xs : List ℕ) (a n : ℕ) → flat_map (λ p. part w (w * p) xs) (counting a n) ≡ part (w * n) (w * a) xs
joined-parts w xs a zero = let none : w * 0 ≡ 0 = omega arith in sym (ap (λ k. take k (drop (w * a) xs)) none)
joined-parts w xs a (suc n) =
    let next : w * suc a ≡ w * a + w = omega (arith, mul-suc w a) in
    let whole : w + w * n ≡ w * suc n = omega (arith, mul-suc w n) in
    ap (λ zs. part w (w * a) xs ++ zs) (joined-parts w xs (suc a) n ∙ (ap (λ k. take (w * n) (drop k xs)) next ∙ ap (take (w * n)) (sym (drop-drop w (w * a) xs)))) ∙ (sym (take-add w (w * n) (drop (w * a) xs)) ∙ ap (λ k. take k (drop (w * a) xs)) whole)

pub joined_same : (f g : ℕ → List ℕ) (a n : ℕ) → ((i : ℕ) → a ≤ i → i < a + n → f i ≡ g i) → flat_map f (counting a n) ≡ flat_map g (counting a n)
joined_same f g a zero each = refl
joined_same f g a (suc n) each =
    ap₂ ◌++◌ (each a (omega arith) (omega arith)) (joined_same f g (suc a) n (λ i low high. each i (omega arith) (omega arith)))

-- a list by its places
pub map-counting : {X : Type 0} (f : ℕ → X) (d : X) (xs : List X) (a : ℕ) → ((i : ℕ) → i < length xs → f (a + i) ≡ get_or xs i d) → map f (counting a (length xs)) ≡ xs
map-counting f d [] a each = refl
map-counting f d (x ∷ xs) a each =
    let here : a ≡ a + 0 = omega arith in
    ap₂ ◌∷◌ (ap f here ∙ each 0 (omega arith)) (map-counting f d xs (suc a) (λ i inside. let next : suc a + i ≡ a + suc i = omega arith in ap f next ∙ each (suc i) (omega arith)))

pub get_d_part : {X : Type 0} (w p : ℕ) (xs : List X) (i : ℕ) (d : X) → i < w → get_or (part w p xs) i d ≡ get_or xs (p + i) d
get_d_part w p xs i d inside = get_or-take w (drop p xs) i d inside ∙ get_or-drop p xs i d

-- a record's key and points as parts of its four bytes
module _ (bs : List ℕ) (i : ℕ) where
  pub key-part : part 2 (4 + 4 * i) bs ≡ part 2 0 (part 4 (4 + 4 * i) bs)
  key-part =
      let here : 4 + 4 * i ≡ 4 + 4 * i + 0 = omega arith in
      ap (λ p. part 2 p bs) here ∙ sym (part-part 2 0 4 (4 + 4 * i) bs (omega arith))

  pub points-part : part 2 (6 + 4 * i) bs ≡ part 2 2 (part 4 (4 + 4 * i) bs)
  points-part =
      let later : 6 + 4 * i ≡ 4 + 4 * i + 2 = omega arith in
      ap (λ p. part 2 p bs) later ∙ sym (part-part 2 2 4 (4 + 4 * i) bs (omega arith))

  pub record-part : part 4 (4 + 4 * i) bs ≡ part 4 (4 * i) (drop 4 bs)
  record-part = ap (take 4) (sym (drop-drop (4 * i) 4 bs))

pub get_d-counting : (a n i d : ℕ) → i < n → get_or (counting a n) i d ≡ a + i
get_d-counting a zero i d inside = absurd (omega arith)
get_d-counting a (suc n) zero d inside = omega arith
get_d-counting a (suc n) (suc i) d inside = let next : suc a + i ≡ a + suc i = omega arith in get_d-counting (suc a) n i d (omega arith) ∙ next
