-- A table: an entry for each two candidates, and when a table is refused.
use Rattle.std.specs.Prelude.{ℕ, ◌+◌, ◌-◌, ◌*◌, ◌/◌, min, max, Bool, cond, ◌&&◌, List, [], ◌∷◌, length, Result, ◌==◌, nat_le, nat_lt, slice_index_or}
use Rattle.sheets.specs.declared.table.TableFault.{TableFault}
use Rattle.sheets.specs.declared.table.TableFault.TheVariants.{Size, Entries}
use Rattle.sheets.specs.Meaning.{Meaning}
use Rattle.sheets.specs.Refusals.{first_no}

-- how many entries n candidates have: one for each two
abbrev pub entries_of : ℕ → ℕ
entries_of n = n * (n - 1) / 2

-- The entry of u and v: for u < v it stands at v(v − 1)/2 + u.
abbrev pub entry : List ℕ → ℕ → ℕ → ℕ
entry xs u v = slice_index_or xs (entries_of (max u v) + min u v) 65535

-- Two different candidates of the sheet fit unless their entry is 65,535.
abbrev pub table_fit : ℕ → List ℕ → ℕ → ℕ → Bool
table_fit n xs u v = nat_lt (min u v) (max u v) && (nat_lt (max u v) n && nat_lt (entry xs u v) 65535)

-- The sheet of a table: n candidates, and the entries as points.
abbrev pub table : ℕ → List ℕ → Meaning
table n xs = record { size = n; fit = table_fit n xs; points = λ u v. cond (table_fit n xs u v) (entry xs u v) 0 }

-- 1 to 256 candidates? Exactly an entry for each two?
abbrev pub table_judged : ℕ → List ℕ → Result (Unit {0}) TableFault
table_judged n xs = first_no (((nat_le 1 n && nat_le n 256), Size) ∷ ((length xs == entries_of n), Entries) ∷ [])

abbrev pub table_number : TableFault → ℕ
table_number Size = 1
table_number Entries = 2
