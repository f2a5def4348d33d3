-- The flat rule.
use Rattle.sheets.specs.Weights.{gain}
use Rattle.rules.specs.Bounds.{Number}

-- the sum of ρ(C, v) over S, plus the points of all pairs within S
abbrev pub flat : Number
flat m C S = gain m C S
