-- Questions put to an input: they are put in order, and the first no decides.
use Rattle.std.specs.Prelude.{Bool, cond, List, [], ◌∷◌, Ok, Err, Result}

-- each question as its answer and the fault that a no is
abbrev pub first_no : {Fault : Type 0} → List (Bool × Fault) → Result (Unit {0}) Fault
first_no [] = Ok tt
first_no (q ∷ qs) = cond q.0 (first_no qs) (Err q.1)
