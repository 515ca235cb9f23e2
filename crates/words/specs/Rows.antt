-- A record as a row. Assumes nothing.
use Rattle.std.specs.Prelude.{ℕ, ◌+◌, List}
use Rattle.operations.specs.declared.row.Row.{Row}
use Rattle.operations.specs.declared.row.Sort.{Sort}
use Rattle.operations.specs.declared.row.Sort.TheVariants.{Read, Write}
use Rattle.words.specs.declared.record.Record.{Record}
use Rattle.words.specs.declared.record.Record.TheVariants as is
use Rattle.words.specs.Words.{word, content, bay_of, cabinet_of, pattern_of}

-- the bytes of a record
abbrev pub bytes_of : Record → List ℕ
bytes_of (is.Read part) = part.now
bytes_of (is.Write part) = part.now

abbrev pub sort_of : Record → Sort
sort_of (is.Read part) = Read
sort_of (is.Write part) = Write

-- the row of the words w, w + 1 and w + 2, with the pattern for the value
abbrev pub pattern_row : Sort → List ℕ → ℕ → Row ℕ
pattern_row sort bytes w = record { sort = sort; bay = bay_of (word bytes w); cabinet = cabinet_of (word bytes w); value = pattern_of (word bytes w); start = content (word bytes (w + 1)); finish = content (word bytes (w + 2)) }
