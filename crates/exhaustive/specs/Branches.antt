-- The two frames that a frame branches into at v.
use Rattle.std.specs.Prelude.{◌≡◌, ℕ, cond, filter, nat_lt}
use Rattle.candidates.specs.Members.{members}
use Rattle.candidates.specs.Sets.{inserted, removed}
use Rattle.exhaustive.specs.declared.frame.Frame.{Frame}
use Rattle.sheets.specs.Meaning.{Meaning}

-- With v: it is added, and of the rest those stay that fit it. Without v: it leaves the rest.
pub record Branched (m : Meaning) (v : ℕ) (frame with without : Frame) : Type 0 where
  pub added : members with.clique ≡ cond (nat_lt v 256) (inserted v (members frame.clique)) (members frame.clique)
  pub fitting : members with.rest ≡ filter (m.fit v) (members without.rest)
  pub same : without.clique ≡ frame.clique
  pub left : members without.rest ≡ removed v (members frame.rest)
