-- How far a stack of frames can still grow, and what a node makes of it when v branches off the top.
use Rattle.std.proofs.Common.{◌≡◌, ℕ, ◌<◌, ◌≤◌, min, Bool, true, false, cond, ltb, List, ◌∷◌, map, length, drop, is_some, Some, None, filter, Option, sym, refl, ap, ◌∙◌, subst, arith}
use Rattle.frames.specs.Stacks.{top_of}
use Rattle.std.proofs.lemmas.Bool.{cond-true, cond-false, lt-ltb, false≢true}
use Rattle.candidates.specs.declared.set.CandidateSet.{CandidateSet}
use Rattle.candidates.specs.Members.{has, members}
use Rattle.candidates.specs.Sets.{inserted, removed, common, is_in, least}
use Rattle.candidates.proofs.Marks.{members-below, members-from}
use Rattle.candidates.proofs.Sets.{cons-from-removed, in-first, length-sub, sub-kept-by}
use Rattle.frames.specs.declared.frame.Frame.{Frame}
use Rattle.frames.specs.Branches.{child, lowered, branched}
use Rattle.frames.specs.Shown.{shown, frames_of, reach}
use Rattle.frames.proofs.Items.{cons-from-top}
use Rattle.rules.specs.Bounds.{Number}
use Rattle.runs.specs.State as runs
use Rattle.runs.specs.State.{Held, State, frame, state, reaches, bound, branch, node, node-on, node_at}
use Rattle.sheets.specs.Meaning.{Meaning}
use Rattle.sheets.proofs.Fitting.{common-fitting}

-- a bound that the held weight does not reach
unreached : (b x : ℕ) (r : Bool) → Some x ≡ cond r None (Some b) → (r ≡ false) × (x ≡ b)
unreached b x true e = absurd (false≢true (ap is_some (sym e)))
unreached b x false e = (refl, cc)

-- the frames that a node makes, if it doesn't drop the top one
node-branched : (m : Meaning) (number : Number) (held : Option Held) (C S : List ℕ) (v mark x : ℕ) (below : List runs.Frame) (fitting : List ℕ) → v < 256 → common S fitting ≡ filter (m.fit v) S → Some x ≡ cond (reaches held (bound m number C (v ∷ S))) None (Some (bound m number C (v ∷ S)))
    → state held (frame (cond (ltb v 256) (inserted v C) C) (common S fitting) (min mark x) ∷ frame C S (min mark x) ∷ below) ≡ node_at m number held C (v ∷ S) mark below
node-branched m number held C S v mark x below fitting small fits above =
    let b = bound m number C (v ∷ S) in
    let told = unreached b x (reaches held b) above in
    let added = cond-true (ltb v 256) (inserted v C) C (lt-ltb v 256 small) in
    (λ i. state held (frame (added i) (fits i) (min mark (told.1 i)) ∷ frame C S (min mark (told.1 i)) ∷ below))
    ∙ ap (state held) (sym (cond-false (reaches held b) below (branch m C v S (min mark b) below) told.0))

-- v, the lowest of the top's rest, has branched off
module _ (before after : List Frame) (top : Frame) (v b : ℕ) (fitting : CandidateSet)
    (first : Some top ≡ top_of before) (low : Some v ≡ least (members top.rest))
    (is : frames_of after ≡ branched v (members fitting) b (frames_of before)) where
  abbrev under : List runs.Frame
  under = map shown (drop 1 before)

  topped : frames_of before ≡ shown top ∷ under
  topped = ap (map shown) (cons-from-top top before first)

  rested : members top.rest ≡ v ∷ removed v (members top.rest)
  rested = cons-from-removed v (members top.rest) (members-from top.rest) low

  frames-after : frames_of after ≡ child v (members fitting) b (shown top) ∷ lowered v b (shown top) ∷ under
  frames-after = is ∙ ap (branched v (members fitting) b) topped

  pub reach-after : reach (frames_of before) ≤ 257 → reach (frames_of after) ≤ 257
  reach-after room =
      omega (arith, ap reach frames-after, ap reach topped, ap length rested, length-sub (sub-kept-by (λ k. is_in k (members fitting)) (removed v (members top.rest))))

  pub node-after : (m : Meaning) (number : Number) (held : Option Held) (s : State) → state held (frames_of before) ≡ s → ((k : ℕ) → has fitting k ≡ m.fit v k)
      → Some b ≡ cond (reaches s.held (bound m number (members top.clique) (members top.rest))) None (Some (bound m number (members top.clique) (members top.rest)))
      → state held (frames_of after) ≡ node m number s
  node-after m number held s view fits above =
      let C = members top.clique in
      let S = removed v (members top.rest) in
      let small = members-below top.rest v (ap (is_in v) rested ∙ in-first v S) in
      let open' = subst (λ T. Some b ≡ cond (reaches held (bound m number C T)) None (Some (bound m number C T))) rested (subst (λ t. Some b ≡ cond (reaches t.held (bound m number C (members top.rest))) None (Some (bound m number C (members top.rest)))) (sym view) above) in
      ap (state held) frames-after
      ∙ node-branched m number held C S v top.mark b under (members fitting) small (common-fitting m v fitting S fits) open'
      ∙ ap (λ T. node_at m number held C T top.mark under) (sym rested)
      ∙ ap (node-on m number held) (sym topped)
      ∙ ap (node m number) view
