-- What is held after a leaf, after both branches of a frame, and at the end.
use Rattle.std.proofs.Common.{◌≡◌, ℕ, ◌<◌, List, [], ◌∷◌, ◌++◌, Some, None, filter, sym, refl, ap, ◌∙◌, subst, ⊎_elim, arith}
use Rattle.candidates.specs.Sets.{counting}
use Rattle.sheets.specs.Heaviest.{FirstHeaviest}
use Rattle.exhaustive.specs.Explored.{Held, Covers, Lighter, Found, Explored}
use Rattle.exhaustive.specs.Explored.Explored.{stays, gives}
use Rattle.sheets.specs.Meaning.{Meaning, Lawful}
use Rattle.sheets.specs.Weights.{weight}
use Rattle.sheets.specs.Frames.{Comes, Open}
use Rattle.sheets.proofs.Comes.{open-start, comes-start, comes-itself, comes-none, comes-left, comes-taken, comes-split, comes-clique, comes-earlier}

lighter-from-covers : (old : Held) (a b : ℕ) → Covers old a → Lighter old b → a < b
lighter-from-covers None a b c l = absurd c
lighter-from-covers (Some h) a b c l = omega arith

lighter-than-more : (old : Held) (a b : ℕ) → Lighter old a → a < b → Lighter old b
lighter-than-more None a b l lt = tt
lighter-than-more (Some h) a b l lt = omega arith

pub explored-leaf-gives : (m : Meaning) (C : List ℕ) (old : Held) (w : ℕ) → w ≡ weight m C → Lighter old w → Explored m C [] old (Some (C, w))
explored-leaf-gives m C old w is l = gives C w refl (record {
  comes = comes-itself m C [];
  weighs = sym is;
  heavier = l;
  heaviest = λ J j. omega (arith, ap (weight m) (comes-none j), is);
  first = λ J j _ other. absurd (other (comes-none j));
})

-- found without v, where all with v weighs less
found_left : {m : Meaning} {C T K : List ℕ} {v w : ℕ} (old mid : Held) → Lighter old w → ((J : List ℕ) → Comes m (C ++ v ∷ []) (filter (m.fit v) T) J → weight m J < w) → Found m C T mid K w → Found m C (v ∷ T) old K w
found_left {m} {C} {T} {K} {v} {w} old mid l less f = record {
  comes = comes-left v f.comes;
  weighs = f.weighs;
  heavier = l;
  heaviest = λ J j. ⊎_elim (λ t. omega (arith, less J t)) (λ t. f.heaviest J t) (comes-split j);
  first = λ J j e other. ⊎_elim (λ t. absurd (omega (arith, less J t))) (λ t. f.first J t e other) (comes-split j);
}

pub explored-branch : {m : Meaning} {C T : List ℕ} {v : ℕ} (old mid new : Held) → Lawful m → Open m C (v ∷ T) → Explored m (C ++ v ∷ []) (filter (m.fit v) T) old mid → Explored m C T mid new → Explored m C (v ∷ T) old new
explored-branch {m} old mid new law o (stays same covered) (stays same' covered') =
    stays (same' ∙ same) (λ K k. ⊎_elim (covered K) (λ t. subst (λ h. Covers h (weight m K)) same (covered' K t)) (comes-split k))
explored-branch {m} old mid new law o (stays same covered) (gives K w is f) =
    let l = subst (λ h. Lighter h w) same f.heavier in
    gives K w is (found_left old mid l (λ J j. lighter-from-covers old (weight m J) w (covered J j) l) f)
explored-branch {m} old mid new law o (gives K w is f) (stays same covered) =
    gives K w (same ∙ is) (record {
      comes = comes-taken law o f.comes;
      weighs = f.weighs;
      heavier = f.heavier;
      heaviest = λ J j. ⊎_elim (f.heaviest J) (λ t. subst (λ h. Covers h (weight m J)) is (covered J t)) (comes-split j);
      first = λ J j e other. ⊎_elim (λ t. f.first J t e other) (comes-earlier law o f.comes) (comes-split j);
    })
explored-branch {m} old mid new law o (gives K w is f) (gives L x is' g) =
    let lt : w < x = subst (λ h. Lighter h x) is g.heavier in
    gives L x is' (found_left old mid (lighter-than-more old w x f.heavier lt) (λ J j. omega (arith, f.heaviest J j)) g)

-- from the start with none held: the set that goes into the accounts
pub explored-start : (m : Meaning) (new : Held) → Explored m [] (counting 0 m.size) None new → (K : List ℕ) × (w : ℕ) × (new ≡ Some (K, w)) × FirstHeaviest m K w
explored-start m new (stays same covered) = absurd (covered [] (comes-itself m [] (counting 0 m.size)))
explored-start m new (gives K w is f) = (
  K,
  w,
  is,
  record {
    clique = comes-clique (open-start m) f.comes;
    weighs = f.weighs;
    heaviest = λ J c. f.heaviest J (comes-start m J c);
    first = λ J c. f.first J (comes-start m J c);
  },
)
