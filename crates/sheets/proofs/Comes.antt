-- Which cliques come from a frame, and from the two frames that it branches into.
use Rattle.std.proofs.Common.{◌≡◌, ℕ, suc, true, ◌⊎◌, List, [], ◌∷◌, ◌++◌, filter, sym, refl, ap, ◌∙◌, subst, inl, inr, append_assoc, append-nil, arith}
use Rattle.std.proofs.lemmas.Bool.{and_parts}
use Rattle.std.proofs.lemmas.Bool.Decides.{nat_tests}
use Rattle.candidates.specs.Order.{Earlier}
use Rattle.candidates.specs.Sets.{is_in, Ascending, counting, Sub}
use Rattle.candidates.specs.Sets.Sub.{none, skip, keep}
use Rattle.candidates.proofs.Order.{earlier-append}
use Rattle.candidates.proofs.Sets.{in-first, in_rest, is_in-append, is_in-kept-by, is_in-counting, in-from, from-weaker, from-kept-by, from-counting, from-sub, sub-none, sub-kept-by, kept-by-sub, sub_trans, within-from-sub}
use Rattle.sheets.specs.Cliques.{Clique}
use Rattle.sheets.specs.Frames.{Comes, Open}
use Rattle.sheets.specs.Meaning.{Meaning, Lawful}
use Rattle.sheets.proofs.Cliques.{clique-none, clique-tail, clique-head, clique-cons, sub-candidates}

pub open-start : (m : Meaning) → Open m [] (counting 0 m.size)
open-start m = record {
  ascending = from-counting 0 m.size;
  below = λ v e. grind (arith, nat_tests, is_in-counting v 0 m.size);
  behind = λ u v e. absurd (grind (arith, nat_tests));
  complete = λ F c s. c;
}

pub open-left : {m : Meaning} {C T : List ℕ} {v : ℕ} → Open m C (v ∷ T) → Open m C T
open-left {T = T} {v = v} o = record {
  ascending = from-weaker (suc v) 0 T o.ascending.1 (omega arith);
  below = λ u e. o.below u (in_rest u v T e);
  behind = λ u w e f. o.behind u w e (in_rest w v T f);
  complete = λ F c s. o.complete F c (skip s);
}

-- a clique out of those that fit v is one with v in front
clique-taken : {m : Meaning} {C T : List ℕ} {v : ℕ} → Lawful m → Open m C (v ∷ T) → (F : List ℕ) → Clique m F → Sub F (filter (m.fit v) T) → Clique m (v ∷ F)
clique-taken {m} {C} {T} {v} law o F c s =
    clique-cons m law v F
    (record {
      above = from-sub (suc v) o.ascending.1 (sub_trans s (sub-kept-by (m.fit v) T));
      candidate = o.below v (in-first v T);
      fits = λ k e. (and_parts (m.fit v k) (is_in k T) (sym (is_in-kept-by (m.fit v) k T) ∙ within-from-sub s k e)).0;
    })
    c

pub open-taken : {m : Meaning} {C T : List ℕ} {v : ℕ} → Lawful m → Open m C (v ∷ T) → Open m (C ++ v ∷ []) (filter (m.fit v) T)
open-taken {m} {C} {T} {v} law o =
    let left = open-left o in
    let within = within-from-sub (sub-kept-by (m.fit v) T) in
    record {
      ascending = from-kept-by (m.fit v) 0 T left.ascending;
      below = λ u e. left.below u (within u e);
      behind = λ u w e f.
          let after = within w f in
          let low = in-from (suc v) w T o.ascending.1 after in
          let far = λ (d : is_in u C ≡ true). left.behind u w d after in
          grind (arith, nat_tests, is_in-append u C (v ∷ []));
      complete = λ F c s. subst (Clique m) (sym (append_assoc C (v ∷ []) F)) (o.complete (v ∷ F) (clique-taken law o F c s) (keep (sub_trans s (sub-kept-by (m.fit v) T))));
    }

pub comes-start : (m : Meaning) (K : List ℕ) → Clique m K → Comes m [] (counting 0 m.size) K
comes-start m K c = record { added = K; is = refl; clique = c; part = sub-candidates m K c }

pub comes-itself : (m : Meaning) (C S : List ℕ) → Comes m C S C
comes-itself m C S = record { added = []; is = sym (append-nil C); clique = clique-none m; part = sub-none S }

pub comes-none : {m : Meaning} {C K : List ℕ} → Comes m C [] K → K ≡ C
comes-none {C = C} k = k.is ∙ ap (λ l. C ++ l) (empty k.part) ∙ append-nil C
  where
    empty : {F : List ℕ} → Sub F [] → F ≡ []
    empty none = refl

pub comes-left : {m : Meaning} {C T K : List ℕ} (v : ℕ) → Comes m C T K → Comes m C (v ∷ T) K
comes-left v k = record { added = k.added; is = k.is; clique = k.clique; part = skip k.part }

pub comes-taken : {m : Meaning} {C T K : List ℕ} {v : ℕ} → Lawful m → Open m C (v ∷ T) → Comes m (C ++ v ∷ []) (filter (m.fit v) T) K → Comes m C (v ∷ T) K
comes-taken {m} {C} {T} {K} {v} law o k = record {
  added = v ∷ k.added;
  is = k.is ∙ append_assoc C (v ∷ []) k.added;
  clique = clique-taken law o k.added k.clique k.part;
  part = keep (sub_trans k.part (sub-kept-by (m.fit v) T));
}

-- with v, or without it
pub comes-split : {m : Meaning} {C T K : List ℕ} {v : ℕ} → Comes m C (v ∷ T) K → Comes m (C ++ v ∷ []) (filter (m.fit v) T) K ⊎ Comes m C T K
comes-split {m} {C} {T} {K} {v} k = by k.added k.part k.is k.clique
  where
    by : (F : List ℕ) → Sub F (v ∷ T) → K ≡ C ++ F → Clique m F → Comes m (C ++ v ∷ []) (filter (m.fit v) T) K ⊎ Comes m C T K
    by F (skip s) is c = inr (record { added = F; is = is; clique = c; part = s })
    by (u ∷ F) (keep s) is c = inl (record { added = F; is = is ∙ sym (append_assoc C (v ∷ []) F); clique = clique-tail m v F c; part = kept-by-sub (m.fit v) s (clique-head m v F c).fits })

pub comes-clique : {m : Meaning} {C S K : List ℕ} → Open m C S → Comes m C S K → Clique m K
comes-clique {m} o k = subst (Clique m) (sym k.is) (o.complete k.added k.clique k.part)

-- what has v is earlier than what has not
pub comes-earlier : {m : Meaning} {C T K J : List ℕ} {v : ℕ} → Lawful m → Open m C (v ∷ T) → Comes m (C ++ v ∷ []) (filter (m.fit v) T) K → Comes m C T J → Earlier K J
comes-earlier {m} {C} {T} {K} {J} {v} law o k j =
    let is : K ≡ C ++ v ∷ k.added = k.is ∙ append_assoc C (v ∷ []) k.added in
    let rises = subst Ascending is (comes-clique o (comes-taken law o k)).ascending in
    rw (is, j.is) (earlier-append 0 v C k.added j.added rises (from-sub (suc v) o.ascending.1 j.part))
