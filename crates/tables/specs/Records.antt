-- The records of a table. Assumes nothing.
use Rattle.std.specs.Prelude.{◌≡◌, ℕ, ◌+◌, ◌*◌, ◌/◌, ◌%◌, ◌<◌, ◌≤◌, Bool, List, [], ◌∷◌, ◌++◌, map, length, is_some, Some, Option, ◌==◌, nat_le, slice_index_or}
use Rattle.operations.specs.declared.refusal.Layer.TheVariants as layer
use Rattle.operations.specs.declared.refusal.Refusal.{Refusal}
use Rattle.operations.specs.declared.row.Row.{Row}
use Rattle.operations.specs.declared.row.Sort.{Sort}
use Rattle.operations.specs.declared.row.Sort.TheVariants.{Read, Write}
use Rattle.operations.specs.Refusals.{refusal}
use Rattle.operations.specs.Checks.{each_below}
use Rattle.words.specs.Reading.{record_kinds}
use Rattle.words.specs.Rows.{pattern_row}
use Rattle.words.specs.Words.{word, kind, content, bay_of, cabinet_of, pattern_of}

-- the kind of a record's first word
abbrev pub head_kind : Sort → ℕ
head_kind Read = 1
head_kind Write = 2

module _ {V : Type 0} (reads : ℕ → Option V) where
  -- record i of the file, which is its words 3 i, 3 i + 1 and 3 i + 2, holds the row
  pub record RecordAt (bytes : List ℕ) (i : ℕ) (row : Row V) : Type 0 where
    pub sort : kind (word bytes (3 * i)) ≡ head_kind row.sort
    pub start_kind : kind (word bytes (3 * i + 1)) ≡ 0
    pub finish_kind : kind (word bytes (3 * i + 2)) ≡ 3
    pub bay : row.bay ≡ bay_of (word bytes (3 * i))
    pub cabinet : row.cabinet ≡ cabinet_of (word bytes (3 * i))
    pub value : reads (pattern_of (word bytes (3 * i))) ≡ Some row.value
    pub start : row.start ≡ content (word bytes (3 * i + 1))
    pub finish : row.finish ≡ content (word bytes (3 * i + 2))
    pub timely : row.start ≤ row.finish

  -- the rows are exactly the records of the file, in order, one each
  pub record Shows (bytes : List ℕ) (rows : List (Row V)) : Type 0 where
    pub whole : 12 * length rows ≡ length bytes
    pub each : (i : ℕ) (d : Row V) → i < length rows → RecordAt bytes i (slice_index_or rows i d)

  -- what is checked of record i once its words have the right kinds: its pattern is a value, and it does not start after its finish
  abbrev pub value_checks : Row ℕ → ℕ → List (Bool × Refusal)
  value_checks row i = (is_some (reads row.value), refusal 4 i layer.Table) ∷ ((nat_le row.start row.finish, refusal 5 i layer.Table) ∷ [])

  -- all that is checked of record i, in order, each with its refusal
  abbrev pub record_checks : List ℕ → ℕ → List (Bool × Refusal)
  record_checks bytes i = map (λ c. (c.0, refusal 3 c.1 layer.WordsInTable)) (record_kinds bytes (3 * i)) ++ value_checks (pattern_row Read bytes (3 * i)) i

  -- all that is checked of a table, in order: its length, and then one record after the other
  abbrev pub table_checks : List ℕ → List (Bool × Refusal)
  table_checks bytes = (nat_le (length bytes) 6144, refusal 1 512 layer.Table) ∷ (((length bytes % 12 == 0), refusal 2 (length bytes) layer.Table) ∷ each_below (length bytes / 12) (record_checks bytes))

  -- the same row, with the value that the pattern stands for
  pub record Valued (row : Row ℕ) (v : Row V) : Type 0 where
    pub value : reads row.value ≡ Some v.value
    pub timely : row.start ≤ row.finish
    pub rest : v ≡ record { sort = row.sort; bay = row.bay; cabinet = row.cabinet; value = v.value; start = row.start; finish = row.finish }
