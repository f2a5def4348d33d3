-- What the two frames that a frame branches into keep of it.
use Rattle.std.proofs.Common.{◌≡◌, ℕ, ◌<◌, true, [], ◌∷◌, ◌++◌, length, Some, ap, ◌∙◌, subst, arith}
use Rattle.candidates.specs.Members.{members}
use Rattle.candidates.specs.Sets.{is_in, least}
use Rattle.candidates.proofs.Marks.{members-lowest, members-last, members-below}
use Rattle.candidates.proofs.Sets.{in-first, length-sub, sub-kept-by}
use Rattle.exhaustive.specs.Branches.{Branched}
use Rattle.exhaustive.specs.declared.frame.Frame.{Frame}
use Rattle.exhaustive.specs.Explored.{Held, Explored}
use Rattle.exhaustive.proofs.Frames.{explored-branch}
use Rattle.sheets.specs.Frames.{Open}
use Rattle.sheets.specs.Meaning.{Meaning, Lawful}
use Rattle.sheets.proofs.Comes.{open-taken, open-left}

module _ {m : Meaning} {v : ℕ} {frame with' without : Frame} (b : Branched m v frame with' without) (lowest : Some v ≡ least (members frame.rest)) where
  rest-is : members frame.rest ≡ v ∷ members without.rest
  rest-is = members-lowest frame.rest without.rest v lowest b.left

  pub fewer-without : length (members without.rest) < length (members frame.rest)
  fewer-without = omega (arith, ap length rest-is)

  pub fewer-with : length (members with'.rest) < length (members frame.rest)
  fewer-with = omega (arith, ap length rest-is, ap length b.fitting, length-sub (sub-kept-by (m.fit v) (members without.rest)))

  module _ (law : Lawful m) (o : Open m (members frame.clique) (members frame.rest)) where
    here : is_in v (members frame.rest) ≡ true
    here = ap (is_in v) rest-is ∙ in-first v (members without.rest)

    with-is : members with'.clique ≡ members frame.clique ++ v ∷ []
    with-is = members-last frame.clique with'.clique v (members-below frame.rest v here) b.added (λ k e. o.behind k v e here)

    open-first : Open m (members frame.clique) (v ∷ members without.rest)
    open-first = subst (Open m (members frame.clique)) rest-is o

    pub open-with : Open m (members with'.clique) (members with'.rest)
    open-with = rw (with-is, b.fitting) (open-taken law open-first)

    pub open-without : Open m (members without.clique) (members without.rest)
    open-without = rw b.same (open-left open-first)

    pub explored-both : (old mid new : Held) → Explored m (members with'.clique) (members with'.rest) old mid → Explored m (members without.clique) (members without.rest) mid new → Explored m (members frame.clique) (members frame.rest) old new
    explored-both old mid new first then = rw rest-is (explored-branch old mid new law open-first (rw (with-is, b.fitting) at first) (rw b.same at then))
