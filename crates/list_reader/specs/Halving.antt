-- How a pair is looked up in the records of a list: by halving.
use Rattle.std.specs.Prelude.{ℕ, zero, suc, ◌+◌, ◌-◌, ◌/◌, cond, List, Some, None, Option, ◌==◌, nat_lt}
use Rattle.blocks.specs.Format.{Record, record_at, record_count}

-- the record in the middle has the key, or tells in which half it is
abbrev pub told : Record → ℕ → Option ℕ → Option ℕ → Option ℕ
told r key below above = cond (r.key == key) (Some r.points) (cond (nat_lt r.key key) above below)

-- the points in the record with a key, looked for from low up to high by halving, in so many turns at most
unfoldable pub halving : (ℕ → Record) → ℕ → ℕ → ℕ → ℕ → Option ℕ
halving at key zero low high = None
halving at key (suc turns) low high =
    let middle : ℕ = low + (high - low) / 2 in
    cond (nat_lt low high) (told (at middle) key (halving at key turns low middle) (halving at key turns (middle + 1) high)) None

unfoldable pub found : List ℕ → ℕ → Option ℕ
found bytes key = halving (record_at bytes) key (record_count bytes) 0 (record_count bytes)
