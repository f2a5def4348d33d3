-- Answers summed up, and lists made sets.
use Rattle.std.proofs.Common.{◌≡◌, ℕ, suc, ◌+◌, ◌<◌, true, ◌||◌, leb, ltb, List, [], ◌∷◌, ◌++◌, length, Option, Some, None, option_map, unwrap_or, sym, refl, ap, ◌∙◌, arith}
use Rattle.std.proofs.lemmas.List.{append-nil, append_assoc}
use Rattle.std.proofs.lemmas.Bool.{cond_both, cond-true, lt-ltb}
use Rattle.std.proofs.lemmas.Bool.Decides.{nat_tests}
use Rattle.candidates.specs.Sets.{is_in, From, inserted}
use Rattle.candidates.proofs.Sets.{in-first, in_rest, inserted-last}
use Rattle.findings.specs.Summaries.{Summary, collected, holding, noted, summary, summary_of, told}
use Rattle.findings.specs.declared.found.Found.{Found}
use Rattle.runs.specs.Calls.{Answer, Granted, Taken, Holding, Ceiling, Refused, written}
use Rattle.runs.specs.Promise.{all_nodes, nodes_of, is_finished, says_finished}
use Rattle.runs.specs.State.{Held}
use Rattle.search.proofs.Offers.{below-push}
use Rattle.sheets.specs.declared.pairing.Pairing.{Pairing}

-- behind what is below all of it, a rising list stays as it is
pub collected-rising : (a : ℕ) (xs vs : List ℕ) → ((k : ℕ) → is_in k xs ≡ true → k < a) → From a vs → ((k : ℕ) → is_in k vs ≡ true → k < 256) → collected xs vs ≡ xs ++ vs
collected-rising a xs [] below up small = sym (append-nil xs)
collected-rising a xs (v ∷ vs) below up small =
    ap (λ ys. collected ys vs) (cond-true (ltb v 256) (inserted v xs) xs (lt-ltb v 256 (small v (in-first v vs))) ∙ inserted-last v xs (λ k e. omega (arith, below k e, up.0)))
    ∙ collected-rising (suc v) (xs ++ v ∷ []) vs (λ k e. omega (arith, below-push xs a v below up.0 k e)) up.1 (λ k e. small k (in_rest k v vs e))
    ∙ append_assoc xs (v ∷ []) vs

-- what was found, with this set held
abbrev with_held : Found → Held → Summary
with_held f h = record { set = h.set; points = h.weight; ceiling = f.ceiling; finished = f.finished; nodes = f.nodes }

held-or : (f : Found) (r : Option Pairing) → summary_of (record { pairing = unwrap_or r f.pairing; ceiling = f.ceiling; finished = f.finished; nodes = f.nodes }) ≡ with_held f (unwrap_or (option_map holding r) (holding f.pairing))
held-or f (Some p) = refl
held-or f None = refl

held-written : (f : Found) (held : Option Held) (buffer : List ℕ) → with_held f (unwrap_or (told (written held buffer)) (holding f.pairing)) ≡ noted (summary_of f) (written held buffer)
held-written f None buffer = refl
held-written f (Some h) buffer =
    cond_both (leb (length h.set) (length buffer)) _ _ (λ a. with_held f (unwrap_or (told a) (holding f.pairing)) ≡ noted (summary_of f) a) (λ _. refl) (λ _. refl)

-- what the search holds, where it holds any, noted in what was found before
pub held-noted : (f : Found) (held : Option Held) (buffer : List ℕ) (r : Option Pairing) (p : Pairing) → option_map holding r ≡ told (written held buffer) → p ≡ unwrap_or r f.pairing → summary_of (record { pairing = p; ceiling = f.ceiling; finished = f.finished; nodes = f.nodes }) ≡ noted (summary_of f) (written held buffer)
held-noted f held buffer r p is all = ap (λ q. summary_of (record { pairing = q; ceiling = f.ceiling; finished = f.finished; nodes = f.nodes })) all ∙ held-or f r ∙ ap (λ o. with_held f (unwrap_or o (holding f.pairing))) is ∙ held-written f held buffer

pub summary-push : (s : Summary) (xs : List Answer) (a : Answer) → summary s (xs ++ a ∷ []) ≡ noted (summary s xs) a
summary-push s [] a = refl
summary-push s (x ∷ xs) a = summary-push (noted s x) xs a

pub noted-nodes : (s : Summary) (a : Answer) → (noted s a).nodes ≡ s.nodes + nodes_of a
noted-nodes s (Granted nodes finished) = refl
noted-nodes s (Taken taken) = omega arith
noted-nodes s (Holding count weight buffer) = omega arith
noted-nodes s (Ceiling ceiling) = omega arith
noted-nodes s (Refused refusal) = omega arith

pub noted-finished : (s : Summary) (a : Answer) → (noted s a).finished ≡ (s.finished || is_finished a)
noted-finished s (Granted nodes finished) = refl
noted-finished s (Taken taken) = grind (arith, nat_tests)
noted-finished s (Holding count weight buffer) = grind (arith, nat_tests)
noted-finished s (Ceiling ceiling) = grind (arith, nat_tests)
noted-finished s (Refused refusal) = grind (arith, nat_tests)

pub summary-nodes : (s : Summary) (xs : List Answer) → (summary s xs).nodes ≡ s.nodes + all_nodes xs
summary-nodes s [] = omega arith
summary-nodes s (x ∷ xs) = omega (arith, noted-nodes s x, summary-nodes (noted s x) xs)

pub summary-finished : (s : Summary) (xs : List Answer) → (summary s xs).finished ≡ (s.finished || says_finished xs)
summary-finished s [] = grind (arith, nat_tests)
summary-finished s (x ∷ xs) = let one = noted-finished s x in let more = summary-finished (noted s x) xs in grind (arith, nat_tests)
