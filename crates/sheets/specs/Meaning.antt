-- What a sheet means: its answers to the three questions, and the laws that they keep.
use Rattle.std.specs.Prelude.{◌≡◌, ℕ, ◌≤◌, Bool, false}

-- The answers of a sheet: how many candidates, which two fit, and the points of two. (An edge-weighted graph.)
pub record Meaning : Type 0 where
  pub size : ℕ
  pub fit : ℕ → ℕ → Bool
  pub points : ℕ → ℕ → ℕ

pub record Lawful (m : Meaning) : Type 0 where
  pub least : 1 ≤ m.size
  pub most : m.size ≤ 256
  pub fit-both : (u v : ℕ) → m.fit u v ≡ m.fit v u
  pub points-both : (u v : ℕ) → m.points u v ≡ m.points v u
  pub not_itself : (u : ℕ) → m.fit u u ≡ false
  pub no-points : (u v : ℕ) → m.fit u v ≡ false → m.points u v ≡ 0
  pub outside : (u v : ℕ) → m.size ≤ u → m.fit u v ≡ false
  pub highest : (u v : ℕ) → m.points u v ≤ 65534
