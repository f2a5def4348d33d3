use Rattle.std.proofs.Common.{◌≡◌, ◌-◌, ◌*◌, [], ◌++◌, drop}
use Rattle.std.specs.Iterator.Adapters.{enumerate_count, enumerate_source}
use Rattle.std.specs.List.{flat_map}
use Rattle.std.specs.Slice.Iter.{chunks_exact_rest, chunks_exact_size}
use Rattle.candidates.specs.Sets.{counting}
use Rattle.sheets.specs.Refusals.{first_no}
use Rattle.blocks.specs.Format.{block_count, record_count}
use Rattle.blocks.specs.Questions.{block_questions, record_questions, judged}
use Rattle.list_reader.proofs.asking.check_list.Given as goal

abbrev pub invariant-loop-place : goal.invariant-loop-place
invariant-loop-place l = record {
  size : chunks_exact_size (enumerate_source l.place-iterator) ≡ 512;
  rest : chunks_exact_rest (enumerate_source l.place-iterator) ≡ drop (512 * enumerate_count l.place-iterator) l.bytes;
  asked : first_no (flat_map (block_questions l.bytes) (counting (enumerate_count l.place-iterator) (block_count l.bytes - enumerate_count l.place-iterator)) ++ flat_map (record_questions l.bytes) (counting 0 (record_count l.bytes))) ≡ judged l.bytes;
}

abbrev pub invariant-loop-j : goal.invariant-loop-j
invariant-loop-j l =
    first_no (flat_map (record_questions l.bytes) (counting l.j (record_count l.bytes - l.j)) ++ []) ≡ judged l.bytes
