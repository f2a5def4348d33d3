-- The questions put to an offer, entry by entry.
use Rattle.std.proofs.Common.{◌≡◌, ℕ, ◌+◌, ◌<◌, ◌≤◌, true, cond, ltb, leb, List, [], ◌∷◌, ◌++◌, length, get_or, take, drop, Some, None, Option, sym, ap, ◌∙◌, add-one, arith}
use Rattle.std.specs.List.{prefix_len}
use Rattle.std.proofs.lemmas.List.{take_more, drop_more, length-take-le}
use Rattle.std.proofs.lemmas.Bool.Decides.{nat_tests}
use Rattle.candidates.specs.Sets.{is_in}
use Rattle.candidates.proofs.Sets.{is_in-append}
use Rattle.runs.specs.Calls.{Refusal, NotBelow, NotAbove, NotFitting, first_no, offer_questions}
use Rattle.search.specs.Offers.{first_unfit}
use Rattle.sheets.specs.Cliques.{fits_all}
use Rattle.sheets.specs.Meaning.{Meaning}

-- the first no of the entries from a place on
abbrev pub asked_from : Meaning → List ℕ → ℕ → ℕ → Option Refusal
asked_from m list least place = first_no (offer_questions m (take place list) least (drop place list))

module _ (m : Meaning) (list : List ℕ) (least place : ℕ) (inside : place < length list) where
  abbrev v : ℕ
  v = get_or list place 0

  abbrev before : List ℕ
  before = take place list

  -- the questions to one entry, and then the others
  asked-more : asked_from m list least place ≡ cond (ltb v m.size) (cond (leb least v) (cond (fits_all m v before) (asked_from m list (v + 1) (place + 1)) (Some (NotFitting place (prefix_len (m.fit v) before)))) (Some (NotAbove place))) (Some (NotBelow place))
  asked-more =
      let front : before ++ v ∷ [] ≡ take (place + 1) list = sym (take_more list place 0 inside) in
      let at : length before ≡ place = length-take-le place list (omega arith) in
      ap (λ xs. first_no (offer_questions m before least xs)) (drop_more list place 0 inside)
      ∙ (λ i. cond (ltb v m.size)
      (cond (leb least v)
      (cond (fits_all m v before) (first_no (offer_questions m (front i) (sym (add-one v) i) (drop (place + 1) list))) (Some (NotFitting (at i) (prefix_len (m.fit v) before))))
      (Some (NotAbove (at i))))
      (Some (NotBelow (at i))))

  pub asked-next : v < m.size → least ≤ v → None ≡ first_unfit m v before → asked_from m list (v + 1) (place + 1) ≡ asked_from m list least place
  asked-next low up fits = let step = asked-more in grind (arith, nat_tests)

pub below-push : (xs : List ℕ) (least v : ℕ) → ((k : ℕ) → is_in k xs ≡ true → k < least) → least ≤ v → (k : ℕ) → is_in k (xs ++ v ∷ []) ≡ true → k < v + 1
below-push xs least v below up k e = let parts = is_in-append k xs (v ∷ []) in let old = below k in grind (arith, nat_tests)
