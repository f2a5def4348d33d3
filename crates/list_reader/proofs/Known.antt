-- What a sheet knows of two candidates.
use Rattle.std.proofs.Common.{◌≡◌, ℕ, ◌+◌, ◌*◌, ◌<◌, min, max, true, ◌&&◌, ltb, None, Option, sym, ◌∙◌, ap₂, arith}
use Rattle.std.proofs.lemmas.Bool.{cond-true, and_from, lt-ltb}
use Rattle.blocks.specs.Format.{known, fair}

pub fair-known : (n : ℕ) (points : ℕ → Option ℕ) (u v low high : ℕ) → low ≡ min u v → high ≡ max u v → low < high → high < n → fair (points (low + 256 * high)) ≡ known n points u v
unfolding known
fair-known n points u v low high is-low is-high less inside =
    let first : ltb (min u v) (max u v) ≡ true = lt-ltb (min u v) (max u v) (omega arith) in
    let second : ltb (max u v) n ≡ true = lt-ltb (max u v) n (omega arith) in
    ap₂ (λ a b. fair (points (a + 256 * b))) is-low is-high ∙ sym (cond-true (ltb (min u v) (max u v) && ltb (max u v) n) (fair (points (min u v + 256 * max u v))) None (and_from (ltb (min u v) (max u v)) (ltb (max u v) n) first second))
