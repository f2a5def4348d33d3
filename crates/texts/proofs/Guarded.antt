-- No byte but a digit and white space is accepted, and a fault names the first such byte.
use Rattle.std.proofs.Common.{◌≡◌, ℕ, ◌+◌, Bool, true, false, cond, ◌||◌, leb, List, [], ◌∷◌, Some, None, Ok, Err, Option, Result, sym, refl, subst, inl, inr, arith}
use Rattle.std.proofs.lemmas.Bool.{cond_both, cond-true, cond-false, or_left, or_right, or_from}
use Rattle.std.specs.Option.{option_to_list}
use Rattle.texts.specs.declared.faults.TextFault.{TextFault}
use Rattle.texts.specs.declared.faults.TextFault.TheVariants.{Byte, Large, Nothing, Memory}
use Rattle.texts.specs.declared.tables.Table.{Table}
use Rattle.texts.specs.Reading.{is_digit, is_white, grown, behind, scanned, tabled, numbers, Answers}
use Rattle.texts.specs.Faithful.{first_other, Marks, Guards}

-- one byte in front
module _ (b : ℕ) (bs : List ℕ) (place : ℕ) where
  first_other-more : (is_digit b || is_white b) ≡ true → first_other (b ∷ bs) ≡ 1 + first_other bs
  first_other-more known = cond-true (is_digit b || is_white b) (1 + first_other bs) 0 known

  marks-more : (is_digit b || is_white b) ≡ true → (e : TextFault) → Marks bs (place + 1) e → Marks (b ∷ bs) place e
  marks-more known (Byte q) h = omega (arith, first_other-more known)
  marks-more known (Large q) h = omega (arith, first_other-more known)
  marks-more known Nothing h = omega (arith, first_other-more known)
  marks-more known Memory h = tt

  guards_more : (is_digit b || is_white b) ≡ true → (r : Result (List ℕ) TextFault) → Guards bs (place + 1) r → Guards (b ∷ bs) place r
  guards_more known (Ok xs) h = omega (arith, first_other-more known)
  guards_more known (Err e) h = marks-more known e h

  guards-white : is_white b ≡ true → (xs : List ℕ) (r : Result (List ℕ) TextFault) → Guards bs (place + 1) r → Guards (b ∷ bs) place (behind xs r)
  guards-white white xs (Ok ys) h = guards_more (or_right (is_digit b) (is_white b) white) (Ok ys) h
  guards-white white xs (Err e) h = guards_more (or_right (is_digit b) (is_white b) white) (Err e) h

  guards-digit : is_digit b ≡ true → (fits : Bool) (r : Result (List ℕ) TextFault) → Guards bs (place + 1) r → Guards (b ∷ bs) place (cond fits r (Err (Large place)))
  guards-digit digit true r h = guards_more (or_left (is_digit b) (is_white b) digit) r h
  guards-digit digit false r h = omega (arith, first_other-more (or_left (is_digit b) (is_white b) digit))

  marks-other : is_white b ≡ false → is_digit b ≡ false → Marks (b ∷ bs) place (Byte place)
  marks-other white digit = omega (arith, cond-false (is_digit b || is_white b) (1 + first_other bs) 0 (or_from (is_digit b) (is_white b) digit white))

pub guards-scanned : (bs : List ℕ) (place : ℕ) (begun : Option ℕ) → Guards bs place (scanned bs place begun)
guards-scanned [] place begun = refl
guards-scanned (b ∷ bs) place begun =
    let rest = guards-scanned bs (place + 1) in
    let number = Some (grown begun b) in
    cond_both (is_white b) _ _ (Guards (b ∷ bs) place)
    (λ white. guards-white b bs place white (option_to_list begun) (scanned bs (place + 1) None) (rest None))
    (λ other. cond_both (is_digit b) _ _ (Guards (b ∷ bs) place) (λ digit. guards-digit b bs place digit (leb (grown begun b) 65535) (scanned bs (place + 1) number) (rest number)) (marks-other b bs place other))

pub guards-tabled : (bs : List ℕ) (place : ℕ) (r : Result (List ℕ) TextFault) → Guards bs place r → Guards bs place (tabled r)
guards-tabled bs place (Ok []) h = h
guards-tabled bs place (Ok (x ∷ xs)) h = h
guards-tabled bs place (Err e) h = h

-- what holds of what is said holds of what is answered
pub guards-answers : (text : List ℕ) (said : Result (List ℕ) TextFault) (r : Result Table TextFault) → Guards text 0 said → Answers said numbers r → Guards text 0 r
guards-answers text said (Ok t) h is = subst (Guards text 0) is h
guards-answers text said (Err e) h (inl (memory, _)) = subst (Marks text 0) (sym memory) tt
guards-answers text said (Err e) h (inr is) = subst (Guards text 0) is h
