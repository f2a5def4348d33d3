-- The lesser of two rules.
use Rattle.std.specs.Prelude.{min}
use Rattle.std.proofs.Common.{arith}
use Rattle.rules.specs.Bounds.{Number, Bounds}

-- the smaller number
abbrev pub lesser : Number → Number → Number
lesser a b m C S = min (a m C S) (b m C S)

pub lesser-bounds : (a b : Number) → Bounds a → Bounds b → Bounds (lesser a b)
lesser-bounds a b h g = record {
  covers = λ m law C S F c s clique within. omega (arith, h.covers m law C S F c s clique within, g.covers m law C S F c s clique within);
  limit = λ m law C S c s. omega (arith, h.limit m law C S c s);
}
