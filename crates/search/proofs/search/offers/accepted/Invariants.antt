use Rattle.std.proofs.Common.{◌≡◌, ℕ, ◌<◌, ◌≤◌, true, take}
use Rattle.candidates.specs.Members.{members}
use Rattle.candidates.specs.Sets.{is_in}
use Rattle.search.proofs.Offers.{asked_from}
use Rattle.search.proofs.search.offers.accepted.Given as goal

-- the entries so far are the set, all below `least`, and what is left to ask decides
abbrev pub invariant-loop-place : goal.invariant-loop-place
invariant-loop-place g l =
    let m = g.S.Sheet.meaning l.sheet in
    (members l.set ≡ take l.place l.list)
    × ((k : ℕ) → is_in k (members l.set) ≡ true → k < l.least)
    × (l.least ≤ 256)
    × (asked_from m l.list l.least l.place ≡ asked_from m l.list 0 0)
