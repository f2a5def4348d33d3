-- What writing does to a buffer, and when it is refused.
use Rattle.std.specs.Prelude.{ℕ, cond, List, ◌++◌, length, drop, Ok, Err, Result, nat_le}
use Rattle.sheets.specs.Meaning.{Meaning}
use Rattle.blocks.specs.Format.{written}
use Rattle.list_writer.specs.declared.faults.WriteFault.{WriteFault}
use Rattle.list_writer.specs.declared.faults.WriteFault.TheVariants.{Short}

abbrev pub write_number : WriteFault → ℕ
write_number Short = 51

-- buffer long enough? Then the answer is the number of bytes written.
abbrev pub write_judged : Meaning → List ℕ → Result ℕ WriteFault
write_judged m buffer = cond (nat_le (length (written m)) (length buffer)) (Ok (length (written m))) (Err Short)

-- the buffer afterwards: beyond the list, and on a refusal, it is as it was
abbrev pub buffer_after : Meaning → List ℕ → List ℕ
buffer_after m buffer =
    cond (nat_le (length (written m)) (length buffer)) (written m ++ drop (length (written m)) buffer) buffer
