-- The worked lists are as they are stated.
use Rattle.std.proofs.Common.{refl}
use Rattle.blocks.specs.Bytes.{low_first, number, all_zero}
use Rattle.blocks.specs.Format.{block_at, content, has_record, meaning_of, packed, record_at, record_bytes, record_count, record_in, record_of, records_from, records_of, sealed, weighed, written}
use Rattle.blocks.specs.Questions.{block_questions, judged, list_questions, record_questions}
use Rattle.list_writer.specs.Worked.{WorkedLists}

pub worked-lists : WorkedLists
unfolding low_first number all_zero block_at content has_record meaning_of packed record_at record_bytes record_count record_in record_of records_from records_of sealed weighed written block_questions judged list_questions record_questions
worked-lists = record { sheet-a = refl; zeros = refl; single = refl }
