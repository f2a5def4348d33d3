use Rattle.std.proofs.Common.{◌≡◌, ◌≤◌, ◌++◌, length, take, drop, replicate}
use Rattle.blocks.specs.Format.{content}
use Rattle.list_writer.specs.Records.{to_come}
use Rattle.list_writer.proofs.writing.next_block.Given as goal

abbrev pub invariant-loop-i : goal.invariant-loop-i
invariant-loop-i g l =
    let rs = to_come g.S.Sheet l.fn.records in
    record {
      filled : l.block ≡ content l.low l.place (take l.i rs) ++ replicate 4 0;
      left : to_come g.S.Sheet l.records ≡ drop l.i rs;
      some : l.i ≤ length rs;
    }
