-- What every node and every offer keeps: no clique is lost that the held set does not cover.
use Rattle.std.proofs.Common.{◌≡◌, ℕ, ◌≤◌, min, true, ◌⊎◌, List, [], ◌∷◌, ◌++◌, filter, Option, inl, inr, ⊎_elim, arith}
use Rattle.std.proofs.lemmas.Bool.{lt-ltb}
use Rattle.std.proofs.lemmas.Bool.Decides.{nat_tests}
use Rattle.candidates.specs.Sets.{counting, inserted}
use Rattle.candidates.specs.Order.{Earlier}
use Rattle.candidates.proofs.Sets.{inserted-last, kept-by-all, within-from-sub}
use Rattle.sheets.specs.Meaning.{Meaning, Lawful}
use Rattle.sheets.specs.Weights.{weight}
use Rattle.sheets.specs.Cliques.{Clique}
use Rattle.sheets.proofs.Weights.{weight-append}
use Rattle.sheets.specs.Frames.{Comes, Open}
use Rattle.sheets.proofs.Comes.{open-start, open-left, open-taken, comes-start, comes-itself, comes-none, comes-left, comes-taken, comes-split, comes-clique, comes-earlier}
use Rattle.rules.specs.Bounds.{Number, Bounds, Candidates, inside}
use Rattle.runs.specs.State.{Frame, frame, Held, State, state, start, offered, reaches, bound, branch, node}
use Rattle.sheets.proofs.Weights.{points, weight-sub}
use Rattle.runs.proofs.Cases.{at-node}
use Rattle.runs.proofs.Holding.{Holds, Sound, holds-less, holds-reached, offered-holds, offered-keeps, offered-sound}

-- K comes from a frame of the stack
abbrev pub Pending : Meaning → List Frame → List ℕ → Type 0
Pending m [] K = ⊥
Pending m (f ∷ below) K = Comes m f.clique f.rest K ⊎ Pending m below K

-- A frame in its place: what comes from it is a clique, weighs at most the mark, and is earlier than all that is pending below.
pub record InPlace (m : Meaning) (C S : List ℕ) (mark : ℕ) (below : List Frame) : Type 0 where
  pub opens : Open m C S
  pub marked : (K : List ℕ) → Comes m C S K → weight m K ≤ mark
  pub earlier : (J K : List ℕ) → Comes m C S J → Pending m below K → Earlier J K

abbrev pub AllInPlace : Meaning → List Frame → Type 0
AllInPlace m [] = Unit {0}
AllInPlace m (f ∷ below) = InPlace m f.clique f.rest f.mark below × AllInPlace m below

-- Every frame is in its place, what is held is a clique of its weight, and every clique is pending or no heavier.
pub record Invariant (m : Meaning) (s : State) : Type 0 where
  pub frames : AllInPlace m s.stack
  pub sound : Sound m s.held
  pub complete : (K : List ℕ) → Clique m K → Pending m s.stack K ⊎ Holds s.held (weight m K)

-- That a part of a set weighs no more is used for this mark alone.
marked_start : (m : Meaning) (K : List ℕ) → Comes m [] (counting 0 m.size) K → weight m K ≤ weight m (counting 0 m.size)
marked_start m K k = rw k.is (weight-sub m k.part)

pub invariant-start : (m : Meaning) → Invariant m (start m)
invariant-start m = record {
  frames = (record { opens = open-start m; marked = marked_start m; earlier = λ J K j p. absurd p }, tt);
  sound = tt;
  complete = λ K c. inl (inl (comes-start m K c));
}

pub clique-open : {m : Meaning} {C S : List ℕ} → Open m C S → Clique m C
clique-open {m} {C} {S} o = comes-clique o (comes-itself m C S)

inside-candidates : (m : Meaning) (S : List ℕ) → Candidates m S → inside m S ≡ S
inside-candidates m S c = kept-by-all _ S (λ k e. lt-ltb k m.size (c.below k e))

-- v is above all that is in, so it goes to the end
inserted-end : {m : Meaning} {C T : List ℕ} {v : ℕ} → Open m C (v ∷ T) → inserted v C ≡ C ++ v ∷ []
inserted-end {C = C} {v = v} o = inserted-last v C (λ k e. o.behind k v e (grind (arith, nat_tests)))

pending-branch : {m : Meaning} {C T K : List ℕ} {v : ℕ} (mark : ℕ) (below : List Frame) → Open m C (v ∷ T) → Comes m C (v ∷ T) K → Pending m (branch m C v T mark below) K
pending-branch mark below o k = rw (inserted-end o) (⊎_elim (λ with. inl with) (λ without. inr (inl without)) (comes-split k))

in-place-left : {m : Meaning} {C T : List ℕ} {v mark : ℕ} {below : List Frame} → InPlace m C (v ∷ T) mark below → InPlace m C T mark below
in-place-left {v = v} p = record {
  opens = open-left p.opens;
  marked = λ K k. p.marked K (comes-left v k);
  earlier = λ J K j q. p.earlier J K (comes-left v j) q;
}

in-place-taken : {m : Meaning} {C T : List ℕ} {v mark : ℕ} {below : List Frame} → Lawful m → InPlace m C (v ∷ T) mark below → InPlace m (C ++ v ∷ []) (filter (m.fit v) T) mark (frame C T mark ∷ below)
in-place-taken law p = record {
  opens = open-taken law p.opens;
  marked = λ K k. p.marked K (comes-taken law p.opens k);
  earlier = λ J K j q. elim q [ inl k ↦ comes-earlier law p.opens j k | inr r ↦ p.earlier J K (comes-taken law p.opens j) r ];
}

in-place-branch : {m : Meaning} {C T : List ℕ} {v mark : ℕ} {below : List Frame} → Lawful m → InPlace m C (v ∷ T) mark below → AllInPlace m below → AllInPlace m (branch m C v T mark below)
in-place-branch law p ps = rw (inserted-end p.opens) (in-place-taken law p, (in-place-left p, ps))

module _ (m : Meaning) (law : Lawful m) (number : Number) (rule : Bounds number) where
  comes-bounded : {C S K : List ℕ} → Open m C S → Comes m C S K → weight m K ≤ bound m number C S
  comes-bounded {C} {S} {K} o k =
      let whole = clique-open o in
      let taken : Candidates m C = record { ascending = whole.ascending; below = whole.below } in
      let rest : Candidates m S = record { ascending = o.ascending; below = o.below } in
      rw (k.is, weight-append m law, inside-candidates m C taken, inside-candidates m S rest)
      (omega (points, rule.covers m law C S k.added taken rest k.clique (within-from-sub k.part)))

  in-place-lowered : {C S : List ℕ} {mark : ℕ} {below : List Frame} → InPlace m C S mark below → InPlace m C S (min mark (bound m number C S)) below
  in-place-lowered p = record {
    opens = p.opens;
    marked = λ K k. omega (points, p.marked K k, comes-bounded p.opens k);
    earlier = p.earlier;
  }

  leaf-keeps : (held : Option Held) (C : List ℕ) (mark : ℕ) (below : List Frame) → Invariant m (state held (frame C [] mark ∷ below)) → Invariant m (state (offered m held C) below)
  leaf-keeps held C mark below i = record {
    frames = i.frames.1;
    sound = offered-sound m held C (clique-open i.frames.0.opens) i.sound;
    complete = λ K c. elim (i.complete K c) [
      | inl (inl k) ↦ inr (rw (comes-none k) (offered-holds m held C))
      | inl (inr p) ↦ inl p
      | inr h ↦ inr (offered-keeps m held C (weight m K) h)
    ];
  }

  prune-keeps : (held : Option Held) (C S : List ℕ) (mark : ℕ) (below : List Frame) → reaches held (bound m number C S) ≡ true → Invariant m (state held (frame C S mark ∷ below)) → Invariant m (state held below)
  prune-keeps held C S mark below t i = record {
    frames = i.frames.1;
    sound = i.sound;
    complete = λ K c. elim (i.complete K c) [
      | inl (inl k) ↦ inr (holds-less held (weight m K) (bound m number C S) (holds-reached held (bound m number C S) t) (comes-bounded i.frames.0.opens k))
      | inl (inr p) ↦ inl p
      | inr h ↦ inr h
    ];
  }

  branch_keeps : (held : Option Held) (C T : List ℕ) (v mark : ℕ) (below : List Frame) → Invariant m (state held (frame C (v ∷ T) mark ∷ below)) → Invariant m (state held (branch m C v T (min mark (bound m number C (v ∷ T))) below))
  branch_keeps held C T v mark below i = record {
    frames = in-place-branch law (in-place-lowered i.frames.0) i.frames.1;
    sound = i.sound;
    complete = λ K c. elim (i.complete K c) [
      | inl (inl k) ↦ inl (pending-branch (min mark (bound m number C (v ∷ T))) below i.frames.0.opens k)
      | inl (inr p) ↦ inl (inr (inr p))
      | inr h ↦ inr h
    ];
  }

  pub node-keeps : (s : State) → Invariant m s → Invariant m (node m number s)
  node-keeps = at-node m number (λ s t. Invariant m s → Invariant m t) (record { idle = λ held i. i; leaf = leaf-keeps; prune = prune-keeps; branch = branch_keeps })

pub offer-keeps : (m : Meaning) (s : State) (K : List ℕ) → Clique m K → Invariant m s → Invariant m (state (offered m s.held K) s.stack)
offer-keeps m s K c i = record {
  frames = i.frames;
  sound = offered-sound m s.held K c i.sound;
  complete = λ J j. ⊎_elim (λ p. inl p) (λ h. inr (offered-keeps m s.held K (weight m J) h)) (i.complete J j);
}
