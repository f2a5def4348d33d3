-- Numbers that are written, in whatever layout, are read back.
use Rattle.std.proofs.Common.{◌≡◌, ℕ, ◌+◌, ◌/◌, ◌%◌, ◌<◌, ◌≤◌, true, false, leb, List, [], ◌∷◌, ◌++◌, length, Some, None, Ok, Err, decimal, Option, Result, refl, ap, ◌∙◌, append_assoc, arith}
use Rattle.std.proofs.lemmas.Fmt.{decimal_by_steps}
use Rattle.std.proofs.lemmas.List.{length-append}
use Rattle.std.proofs.lemmas.Bool.Decides.{nat_tests}
use Rattle.texts.specs.declared.faults.TextFault.{TextFault}
use Rattle.texts.specs.Reading.{is_digit, is_white, grown, behind, scanned}
use Rattle.texts.specs.Faithful.{Ends, Writes, nothing, space, number}

behind-none : (r : Result (List ℕ) TextFault) → behind [] r ≡ r
behind-none (Ok ys) = refl
behind-none (Err e) = refl

-- a digit goes on with the number begun
scanned-digit : (begun : Option ℕ) (d n place : ℕ) (bs : List ℕ) → d < 10 → grown begun (48 + d) ≡ n → n ≤ 65535 → scanned ((48 + d) ∷ bs) place begun ≡ scanned bs (place + 1) (Some n)
scanned-digit begun d n place bs digit is small =
    let other : is_white (48 + d) ≡ false = grind (arith, nat_tests) in
    let one : is_digit (48 + d) ≡ true = grind (arith, nat_tests) in
    let room : leb n 65535 ≡ true = grind (arith, nat_tests) in
    rw (other, one, is, room)

-- the digits ds are read as n
abbrev ReadAs : ℕ → List ℕ → Type 0
ReadAs n ds = (place : ℕ) (bs : List ℕ) → n ≤ 65535 → scanned (ds ++ bs) place None ≡ scanned bs (place + length ds) (Some n)

read_as-one : (n : ℕ) → n < 10 → ReadAs n ((48 + n) ∷ [])
read_as-one n digit place bs small = scanned-digit None n n place bs digit (omega arith) small

read_as-more : (n : ℕ) (ds : List ℕ) → 10 ≤ n → ReadAs (n / 10) ds → ReadAs n (ds ++ ((48 + n % 10) ∷ []))
read_as-more n ds long front place bs small =
    rw (append_assoc, length-append)
    (front place ((48 + n % 10) ∷ bs) (omega arith)
    ∙ scanned-digit (Some (n / 10)) (n % 10) n (place + length ds) bs (omega arith) (omega arith) small
    ∙ ap (λ p. scanned bs p (Some n)) (omega arith))

scanned-decimal : (n place : ℕ) (bs : List ℕ) → n ≤ 65535 → scanned (decimal n ++ bs) place None ≡ scanned bs (place + length (decimal n)) (Some n)
scanned-decimal n place bs small = decimal_by_steps ReadAs read_as-one read_as-more n (omega arith) place bs small

-- what ends a number closes it
scanned-ends : (n place : ℕ) (bs : List ℕ) → Ends bs → scanned bs place (Some n) ≡ behind (n ∷ []) (scanned bs place None)
scanned-ends n place [] ends = refl
scanned-ends n place (b ∷ bs) white = rw (white, behind-none)

pub scanned-writes : {text xs : List ℕ} → Writes text xs → (place : ℕ) → scanned text place None ≡ Ok xs
scanned-writes nothing place = refl
scanned-writes (space white more) place = rw (white, scanned-writes more (place + 1))
scanned-writes (number {n} {bs} small ends more) place =
    scanned-decimal n place bs small
    ∙ scanned-ends n (place + length (decimal n)) bs ends
    ∙ ap (behind (n ∷ [])) (scanned-writes more (place + length (decimal n)))
