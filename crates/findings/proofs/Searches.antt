-- What a search has answered that was asked for grants, its held set and its ceiling.
use Rattle.std.proofs.Common.{◌≡◌, ℕ, zero, suc, ◌≤◌, true, List, [], ◌∷◌, ◌++◌, length, take, drop, replicate, sym, refl, ap, ◌∙◌, subst, inl, inr, arith}
use Rattle.std.proofs.lemmas.List.{append_assoc, length-replicate, take_at}
use Rattle.std.proofs.lemmas.Bool.{false≢true}
use Rattle.candidates.proofs.Sets.{length-sub, length-counting}
use Rattle.findings.specs.Summaries.{Summary, asked, collected, noted, nothing, summary, summary_of}
use Rattle.findings.specs.declared.found.Found.{Found}
use Rattle.findings.specs.Searched.{Searched}
use Rattle.findings.proofs.Granting.{heard-grants}
use Rattle.findings.proofs.Summing.{collected-rising, summary-push, summary-nodes, summary-finished}
use Rattle.rules.specs.Bounds.{Number}
use Rattle.runs.specs.State.{Held, start}
use Rattle.runs.specs.Calls.{Call, Grant, Offer, AskHeld, AskCeiling, Answer, Ceiling, answers}
use Rattle.runs.specs.Promise.{Promise, HeldAfter, NoneAfter, Was, says_finished}
use Rattle.sheets.specs.Cliques.{Clique}
use Rattle.sheets.specs.Heaviest.{FirstHeaviest}
use Rattle.sheets.specs.Meaning.{Meaning, Lawful}
use Rattle.sheets.specs.Weights.{weight}
use Rattle.sheets.proofs.Cliques.{clique-none, sub-candidates}

-- no offer is among the grants
no-offer : (nodes grants : ℕ) (list : List ℕ) (a : Answer) (answered : List Answer) → Was (Offer list) a (replicate grants (Grant nodes)) answered → ⊥
no-offer nodes zero list a answered was = was
no-offer nodes (suc grants) list a [] was = was
no-offer nodes (suc grants) list a (b ∷ answered) (inl was) = let same = was.0 in let z : ◌≡◌ {A = ℕ} 0 1 = cc in omega arith
no-offer nodes (suc grants) list a (b ∷ answered) (inr was) = no-offer nodes grants list a answered was

module _ (m : Meaning) (law : Lawful m) (number : Number) (promise : Promise m number) (grants nodes room : ℕ) (wide : 256 ≤ room) where
  abbrev before : List Call
  before = replicate grants (Grant nodes)

  abbrev buffer : List ℕ
  buffer = replicate room 0

  abbrev given : List Answer
  given = answers m number before

  abbrev all : List Answer
  all = answers m number (asked grants nodes room)

  -- the buffer has room for a held set
  fits : (h : Held) → HeldAfter m number before h → length h.set ≤ length buffer
  fits h is = omega (arith, length-sub (sub-candidates m h.set (promise.held.clique before h is)), length-counting 0 m.size, law.most, length-replicate {A = ℕ} room 0)

  -- the answer to the question for the held set, which doesn't say that the search is finished
  held-answer : (a : Answer) × (answers m number (before ++ AskHeld buffer ∷ []) ≡ given ++ a ∷ []) × ((s : Summary) → (noted s a).finished ≡ s.finished)
  held-answer = elim (promise.held.known before) [ inl held ↦ (_, held.1 buffer (fits held.0 held.1), λ s. refl) | inr none ↦ (_, none buffer, λ s. refl) ]

  ceiling-answer : (c : ℕ) × (answers m number ((before ++ AskHeld buffer ∷ []) ++ AskCeiling ∷ []) ≡ answers m number (before ++ AskHeld buffer ∷ []) ++ Ceiling c ∷ [])
  ceiling-answer = promise.ceiling.known (before ++ AskHeld buffer ∷ [])

  asked-last : asked grants nodes room ≡ (before ++ AskHeld buffer ∷ []) ++ AskCeiling ∷ []
  unfolding asked
  asked-last = sym (append_assoc before (AskHeld buffer ∷ []) (AskCeiling ∷ []))

  summary-all : (a : Answer) → answers m number (before ++ AskHeld buffer ∷ []) ≡ given ++ a ∷ [] → summary nothing all ≡ noted (noted (summary nothing given) a) (Ceiling ceiling-answer.0)
  summary-all a is =
      let c = ceiling-answer.0 in
      ap (λ calls. summary nothing (answers m number calls)) asked-last
      ∙ ap (summary nothing) ceiling-answer.1
      ∙ summary-push nothing (answers m number (before ++ AskHeld buffer ∷ [])) (Ceiling c)
      ∙ ap (λ xs. noted (summary nothing xs) (Ceiling c)) is
      ∙ ap (λ s. noted s (Ceiling c)) (summary-push nothing given a)

  summary-covers : (K : List ℕ) → Clique m K → weight m K ≤ (summary nothing all).ceiling
  summary-covers K clique =
      let is = summary-all held-answer.0 held-answer.1 in
      subst (λ (c : ℕ). weight m K ≤ c) (sym (ap (λ s. s.ceiling) is)) (promise.ceiling.covers (before ++ AskHeld buffer ∷ []) ceiling-answer.0 ceiling-answer.1 K clique)

  -- the front of the buffer is the held set
  front : (h : Held) → HeldAfter m number before h → collected [] (take (length h.set) (h.set ++ drop (length h.set) buffer)) ≡ h.set
  front h is =
      let clique = promise.held.clique before h is in
      ap (collected []) (take_at h.set (drop (length h.set) buffer) (length h.set) refl)
      ∙ collected-rising 0 [] h.set (λ k e. absurd (false≢true e)) clique.ascending (λ k e. omega (arith, clique.below k e, law.most))

  -- what holds of a held set and its weight holds of what was found
  at_held : (P : List ℕ → ℕ → Type 0) (h : Held) → HeldAfter m number before h → P h.set h.weight → P (summary nothing all).set (summary nothing all).points
  at_held P h is p = subst (λ (s : Summary). P s.set s.points) (sym (summary-all _ (is buffer (fits h is)))) (subst (λ (K : List ℕ). P K h.weight) (sym (front h is)) p)

  -- where none is held, the set is empty and has no points
  at_none : (P : List ℕ → ℕ → Type 0) → NoneAfter m number before → P [] 0 → P (summary nothing all).set (summary nothing all).points
  at_none P is p = subst (λ (s : Summary). P s.set s.points) (sym (summary-all _ (is buffer))) (heard-grants m number nodes P grants nothing (start m) p)

  summary-clique : Clique m (summary nothing all).set × (weight m (summary nothing all).set ≡ (summary nothing all).points)
  summary-clique =
      let P = λ (K : List ℕ) (w : ℕ). Clique m K × (weight m K ≡ w) in
      elim (promise.held.known before) [
        | inl held ↦ at_held P held.0 held.1 (promise.held.clique before held.0 held.1, promise.held.weighs before held.0 held.1)
        | inr none ↦ at_none P none (clique-none m, refl)
      ]

  summary-first : (summary nothing all).finished ≡ true → FirstHeaviest m (summary nothing all).set (summary nothing all).points
  summary-first done =
      let said : says_finished given ≡ true =
      sym (summary-finished nothing given) ∙ sym (held-answer.2 (summary nothing given)) ∙ sym (ap (λ s. s.finished) (summary-all held-answer.0 held-answer.1)) ∙ done in
      let held = promise.finished.heaviest before said in
      at_held (FirstHeaviest m) held.0 held.1
      (promise.finished.first before held.0 (record { finished = said; holds = held.1; lighter = λ list was. absurd (no-offer nodes grants list _ given was) }))

pub searched : (m : Meaning) → Lawful m → (number : Number) → Promise m number → (grants : ℕ) (found : Found) → summary_of found ≡ summary nothing (answers m number (asked grants 1000000 256)) → Searched m number grants found
searched m law number promise grants found is =
    let all = answers m number (asked grants 1000000 256) in
    let sound = summary-clique m law number promise grants 1000000 256 (omega arith) in
    record {
      answered = is;
      nodes = omega (arith, ap (λ s. s.nodes) is, summary-nodes nothing all);
      finished = ap (λ s. s.finished) is ∙ summary-finished nothing all;
      clique = subst (λ (s : Summary). Clique m s.set) (sym is) sound.0;
      weighs = subst (λ (s : Summary). weight m s.set ≡ s.points) (sym is) sound.1;
      first = subst (λ (s : Summary). s.finished ≡ true → FirstHeaviest m s.set s.points) (sym is) (summary-first m law number promise grants 1000000 256 (omega arith));
      covers = subst (λ (s : Summary). (K : List ℕ) → Clique m K → weight m K ≤ s.ceiling) (sym is) (summary-covers m law number promise grants 1000000 256 (omega arith));
    }
