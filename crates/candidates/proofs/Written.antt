-- Writing a list into the front of a buffer.
use Rattle.std.proofs.Common.{◌≡◌, ℕ, suc, ◌+◌, ◌<◌, List, [], ◌∷◌, ◌++◌, length, take, drop, set, ap, ◌∙◌, arith}
use Rattle.std.proofs.lemmas.List.{append_assoc, take-append-drop, take_more_set, drop-set-lt}

-- what the buffer comes to: the part that is written, the list that is left, and what then stays
abbrev pub filled : List ℕ → ℕ → List ℕ → List ℕ
filled buffer place rest = take place buffer ++ (rest ++ drop (place + length rest) buffer)

pub filled_more : (buffer : List ℕ) (place v : ℕ) (rest : List ℕ) → place < length buffer → filled (set buffer place v) (place + 1) rest ≡ filled buffer place (v ∷ rest)
filled_more buffer place v rest inside =
    let same : place + 1 + length rest ≡ place + suc (length rest) = omega arith in
    (λ i. take_more_set buffer place v inside i ++ (rest ++ drop-set-lt (place + 1 + length rest) buffer place v (omega arith) i))
    ∙ append_assoc (take place buffer) (v ∷ []) (rest ++ drop (place + 1 + length rest) buffer)
    ∙ ap (λ n. take place buffer ++ ((v ∷ rest) ++ drop n buffer)) same

pub filled_none : (buffer : List ℕ) (place : ℕ) → filled buffer place [] ≡ buffer
filled_none buffer place = let same : place + 0 ≡ place = omega arith in ap (λ n. take place buffer ++ drop n buffer) same ∙ take-append-drop place buffer

pub filled-all : (buffer list : List ℕ) → filled buffer 0 list ≡ list ++ drop (length list) buffer
filled-all buffer list = let same : 0 + length list ≡ length list = omega arith in ap (λ n. list ++ drop n buffer) same
