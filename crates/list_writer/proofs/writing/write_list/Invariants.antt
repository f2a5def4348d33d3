use Rattle.std.proofs.Common.{◌≡◌, ◌-◌, ◌*◌, ◌++◌, drop}
use Rattle.std.specs.List.{flat_map}
use Rattle.candidates.specs.Sets.{counting}
use Rattle.blocks.specs.Format.{block_at, records}
use Rattle.list_writer.specs.Records.{to_come}
use Rattle.list_writer.proofs.writing.write_list.Given as goal

abbrev pub invariant-loop-place : goal.invariant-loop-place
invariant-loop-place g l =
    let m = g.S.Sheet.meaning l.sheet in
    record {
      stand : l.buffer ≡ flat_map (block_at (m.size - 1) (records m)) (counting 0 l.place) ++ drop (512 * l.place) l.initial.buffer;
      left : to_come g.S.Sheet l.records ≡ drop (126 * l.place) (records m);
    }
