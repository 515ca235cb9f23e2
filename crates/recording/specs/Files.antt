-- The bytes of files. Assumes nothing.
use Rattle.std.specs.Prelude.{ℕ, ◌+◌, ◌*◌, ◌%◌, ◌^◌, ◌<◌, List, ◌++◌, length, slice_index_or}
use Rattle.std.specs.Int.{w32, to_be_bytes}
use Rattle.std.specs.List.{flat_map}
use Rattle.operations.specs.declared.row.Row.{Row}
use Rattle.operations.specs.Rows.{AllValid}
use Rattle.tables.specs.Records.{head_kind}

-- the first word of a row's record: 2 bits kind, 6 bits bay, 6 bits cabinet, 18 bits pattern
abbrev pub head : Row ℕ → ℕ
head row = ((head_kind row.sort * 64 + row.bay % 64) * 64 + row.cabinet % 64) * 2 ^ 18 + row.value % 2 ^ 18

-- the start's word has kind 0
abbrev pub start_word : Row ℕ → ℕ
start_word row = row.start % 2 ^ 30

-- the finish's word has kind 3
abbrev pub finish_word : Row ℕ → ℕ
finish_word row = 3 * 2 ^ 30 + row.finish % 2 ^ 30

-- the bytes of a row's record: its three words, each high byte first
abbrev pub record_bytes : Row ℕ → List ℕ
record_bytes row = to_be_bytes w32 (head row) ++ (to_be_bytes w32 (start_word row) ++ to_be_bytes w32 (finish_word row))

-- the bytes of a table with a record for each row
abbrev pub table_bytes : List (Row ℕ) → List ℕ
table_bytes rows = flat_map record_bytes rows

-- each row is an operation's, and its value a pattern of 18 bits
abbrev pub Recordable : List (Row ℕ) → Type 0
Recordable rows = AllValid rows × ((place : ℕ) (d : Row ℕ) → place < length rows → (slice_index_or rows place d).value < 2 ^ 18)
