use Rattle.std.proofs.Common.{vec_items}
use Rattle.texts.proofs.Scans.{Sofar}
use Rattle.texts.proofs.numbers.read_numbers.Given as goal

abbrev pub invariant-loop-place : goal.invariant-loop-place
invariant-loop-place l = Sofar l.text l.place (vec_items l.numbers) l.begun
