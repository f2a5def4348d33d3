-- The top of a stack.
use Rattle.std.specs.Prelude.{List, [], ◌∷◌, Some, None, Option}

abbrev pub top_of : {F : Type 0} → List F → Option F
top_of [] = None
top_of (f ∷ below) = Some f
