use Rattle.std.proofs.Common.{◌≡◌, ◌-◌, ◌+◌, ◌*◌, ◌≤◌, drop}
use Rattle.std.specs.Iterator.Adapters.{enumerate_count, enumerate_source, take_count, take_source}
use Rattle.std.specs.Slice.Iter.{iter_rest}
use Rattle.blocks.specs.Format.{weighed, check}
use Rattle.blocks.proofs.checks.check_of.Given as goal

abbrev pub invariant-loop-i : goal.invariant-loop-i
invariant-loop-i l = record {
  left : enumerate_count l.i-iterator + take_count (enumerate_source l.i-iterator) ≡ 508;
  rest : iter_rest (take_source (enumerate_source l.i-iterator)) ≡ drop (enumerate_count l.i-iterator) l.block;
  so_far : l.sum + weighed l.block (enumerate_count l.i-iterator) (508 - enumerate_count l.i-iterator) ≡ check l.block;
  most : l.sum ≤ 129540 * enumerate_count l.i-iterator;
}
