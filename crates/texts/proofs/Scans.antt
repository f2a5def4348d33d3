-- How reading goes on from byte to byte: what was read and what is left always give the whole.
use Rattle.std.proofs.Common.{◌≡◌, ℕ, ◌+◌, ◌<◌, true, false, ◌⊎◌, leb, List, [], ◌∷◌, length, get_or, drop, Some, None, Ok, Err, Option, Result, sym, refl, ap, ◌∙◌, inl, inr}
use Rattle.std.proofs.lemmas.Bool.{cond_both, false≢true}
use Rattle.std.proofs.lemmas.List.{at_drop_more}
use Rattle.std.specs.Option.{is_some, option_to_list}
use Rattle.texts.specs.declared.faults.TextFault.{TextFault}
use Rattle.texts.specs.declared.faults.TextFault.TheVariants.{Memory}
use Rattle.texts.specs.Reading.{is_white, is_digit, grown, behind, scanned, says_none}
use Rattle.texts.specs.Steps.{Steps}

-- ---- where memory may run out: there is a number

-- no fault that says that there is no number
abbrev Sound : Result (List ℕ) TextFault → Type 0
Sound (Ok xs) = Unit {0}
Sound (Err e) = says_none (Err e) ≡ false

sound-behind : (xs : List ℕ) (r : Result (List ℕ) TextFault) → Sound r → Sound (behind xs r)
sound-behind xs (Ok ys) h = tt
sound-behind xs (Err e) h = h

sound-scanned : (bs : List ℕ) (place : ℕ) (begun : Option ℕ) → Sound (scanned bs place begun)
sound-scanned [] place begun = tt
sound-scanned (b ∷ bs) place begun =
    let number = Some (grown begun b) in
    cond_both (is_white b) _ _ Sound
    (λ _. sound-behind (option_to_list begun) (scanned bs (place + 1) None) (sound-scanned bs (place + 1) None))
    (λ _. cond_both (is_digit b) _ _ Sound (λ _. cond_both (leb (grown begun b) 65535) _ _ Sound (λ _. sound-scanned bs (place + 1) number) (λ _. refl)) (λ _. refl))

says-behind : (xs : List ℕ) (n : ℕ) (r : Result (List ℕ) TextFault) → Sound r → says_none (behind xs (behind (n ∷ []) r)) ≡ false
says-behind [] n (Ok ys) h = refl
says-behind (x ∷ xs) n (Ok ys) h = refl
says-behind xs n (Err e) h = h

-- white space ends the number begun
says-closed : (xs : List ℕ) (begun : Option ℕ) (b : ℕ) (bs : List ℕ) (place : ℕ) → is_white b ≡ true → is_some begun ≡ true → says_none (behind xs (scanned (b ∷ bs) place begun)) ≡ false
says-closed xs None b bs place white some = absurd (false≢true some)
says-closed xs (Some n) b bs place white some = rw white (says-behind xs n (scanned bs (place + 1) None) (sound-scanned bs (place + 1) None))

-- ---- a byte more

-- the bytes before this place gave these numbers, and the number begun
abbrev pub Sofar : List ℕ → ℕ → List ℕ → Option ℕ → Type 0
Sofar text place xs begun = behind xs (scanned (drop place text) place begun) ≡ scanned text 0 None

-- a fault at the byte at this place is the whole text's
pub sofar-stops : (text : List ℕ) (place : ℕ) (xs : List ℕ) (begun : Option ℕ) → Sofar text place xs begun → (e : TextFault) → place < length text → Steps xs begun place (get_or text place 0) xs (Err e) → ((e ≡ Memory) × (says_none (scanned text 0 None) ≡ false)) ⊎ (scanned text 0 None ≡ Err e)
sofar-stops text place xs begun sofar e h steps =
    let rest = drop (place + 1) text in
    let next = sym (at_drop_more (λ bs. behind xs (scanned bs place begun)) text place 0 h) ∙ sofar in
    elim steps [
      | inl full ↦ inl (full.0, ap says_none (sym next) ∙ says-closed xs begun (get_or text place 0) rest place full.1.0 full.1.1)
      | inr stops ↦ inr (sym next ∙ ap (behind xs) (stops rest))
    ]
