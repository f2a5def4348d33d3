-- Grant after grant: what is left gives the whole.
use Rattle.std.proofs.Common.{◌≡◌, ℕ, zero, suc, ◌+◌, ◌-◌, ◌*◌, ◌<◌, ◌≤◌, Bool, true, false, ◌&&◌, ◌||◌, leb, List, [], ◌∷◌, ◌++◌, replicate, sym, refl, ap, ◌∙◌, subst, arith}
use Rattle.std.proofs.lemmas.Bool.{cond_both}
use Rattle.std.proofs.lemmas.Bool.Decides.{nat_tests}
use Rattle.findings.specs.Summaries.{Summary, Leads, asked, heard, noted, nothing, summary}
use Rattle.findings.proofs.Summing.{noted-nodes, noted-finished}
use Rattle.rules.specs.Bounds.{Number}
use Rattle.runs.specs.Calls.{Call, Grant, AskHeld, AskCeiling, Granted, Ceiling, GrantOutOfRange, Progress, Reply, answers, granted, progress, refused, reply, written}
use Rattle.runs.specs.State.{State, ceiling, finished, start}
use Rattle.runs.proofs.Grants.{reply-says}
use Rattle.runs.proofs.Limits.{progress-finished, reply-limit}
use Rattle.sheets.specs.Meaning.{Meaning}

-- that a finished search is finished says nothing new
noted-stopped : (s : Summary) (again : Bool) → s.finished ≡ true → noted s (Granted 0 again) ≡ s
noted-stopped s again said =
    let still : (s.finished || again) ≡ s.finished = grind (arith, nat_tests) in
    let all : s.nodes + 0 ≡ s.nodes = omega arith in
    λ i. record { set = s.set; points = s.points; ceiling = s.ceiling; finished = still i; nodes = all i }

module _ (m : Meaning) (number : Number) (nodes : ℕ) where
  abbrev one : State → Reply
  one t = reply m number t (Grant nodes)

  -- what holds of an accepted grant and of a refused one
  at-grant : (t : State) (P : Reply → Type 0) → P (granted (progress m number nodes t)) → P (refused t GrantOutOfRange) → P (one t)
  at-grant t P accepted denied = cond_both (leb 1 nodes && leb nodes 1000000) (granted (progress m number nodes t)) (refused t GrantOutOfRange) P (λ _. accepted) (λ _. denied)

  grant-finished : (s : Summary) (t : State) → s.finished ≡ true → finished t ≡ true → (noted s (one t).answer ≡ s) × ((one t).next ≡ t)
  grant-finished s t said end =
      at-grant t (λ r. (noted s r.answer ≡ s) × (r.next ≡ t))
      (subst (λ (p : Progress). (noted s (granted p).answer ≡ s) × ((granted p).next ≡ t)) (sym (progress-finished m number nodes t end)) (noted-stopped s (finished t) said, refl))
      (refl, refl)

  -- a search that has said finished may be granted more or not
  heard-finished : (k : ℕ) (s : Summary) (t : State) (rest : List Call) → s.finished ≡ true → finished t ≡ true → heard m number s t (replicate k (Grant nodes) ++ rest) ≡ heard m number s t rest
  heard-finished zero s t rest said end = refl
  heard-finished (suc k) s t rest said end =
      let same = grant-finished s t said end in
      (λ i. heard m number (same.0 i) (same.1 i) (replicate k (Grant nodes) ++ rest)) ∙ heard-finished k s t rest said end

  -- grants say nothing of set and points
  pub heard-grants : (P : List ℕ → ℕ → Type 0) (k : ℕ) (s : Summary) (t : State) → P s.set s.points → P (heard m number s t (replicate k (Grant nodes))).set (heard m number s t (replicate k (Grant nodes))).points
  heard-grants P zero s t p = p
  heard-grants P (suc k) s t p = heard-grants P k (noted s (one t).answer) (one t).next (at-grant t (λ r. P (noted s r.answer).set (noted s r.answer).points) p p)

  -- of the grants to a search in the state u, i are done, which led to s and t
  pub record Sofar (grants : ℕ) (u : State) (i : ℕ) (s : Summary) (t : State) : Type 0 where
    pub whole : (rest : List Call) → heard m number s t (replicate (grants - i) (Grant nodes) ++ rest) ≡ heard m number nothing u (replicate grants (Grant nodes) ++ rest)
    pub limit : s.nodes ≤ 1000000 * i
    pub ended : s.finished ≡ true → finished t ≡ true

  next : (grants : ℕ) (u : State) (i : ℕ) (s : Summary) (t : State) → nodes ≤ 1000000 → i < grants → s.finished ≡ false → Sofar grants u i s t → Sofar grants u (i + 1) (noted s (one t).answer) (one t).next
  next grants u i s t le below going a =
      let left : grants - i ≡ suc (grants - (i + 1)) = omega arith in
      record {
        whole = λ rest. sym (ap (λ k. heard m number s t (replicate k (Grant nodes) ++ rest)) left) ∙ a.whole rest;
        limit = omega (arith, a.limit, noted-nodes s (one t).answer, reply-limit m number t (Grant nodes));
        ended = λ e. reply-says m number t (Grant nodes) (let now = noted-finished s (one t).answer in grind (arith, nat_tests));
      }

  pub sofar-more : (grants : ℕ) (u : State) (i : ℕ) (s : Summary) (t : State) (s' : Summary) (t' : State) → nodes ≤ 1000000 → i < grants → s.finished ≡ false → s' ≡ noted s (one t).answer → t' ≡ (one t).next → Sofar grants u i s t → Sofar grants u (i + 1) s' t'
  sofar-more grants u i s t s' t' le below going is at a =
      subst (λ s. Sofar grants u (i + 1) s t') (sym is) (subst (Sofar grants u (i + 1) (noted s (one t).answer)) (sym at) (next grants u i s t le below going a))

  pub sofar-finished : (grants : ℕ) (u : State) (i : ℕ) (s : Summary) (t : State) → s.finished ≡ true → Sofar grants u i s t → Leads m number u (replicate grants (Grant nodes)) s t
  sofar-finished grants u i s t said a rest = sym (heard-finished (grants - i) s t rest said (a.ended said)) ∙ a.whole rest

  -- after the grants, the held set and the ceiling
  pub asked-all : (grants room : ℕ) (s : Summary) (t : State) → Leads m number (start m) (replicate grants (Grant nodes)) s t → noted (noted s (written t.held (replicate room 0))) (Ceiling (ceiling t)) ≡ summary nothing (answers m number (asked grants nodes room))
  unfolding asked
  asked-all grants room s t whole = whole (AskHeld (replicate room 0) ∷ AskCeiling ∷ [])
