-- What a gathered write keeps of the rows. Assumes nothing.
use Rattle.std.specs.Prelude.{◌≡◌, ℕ, ◌<◌, min, true, false, cond, List, length, IfSome, Some, None, Option, nat_le, slice_index_or}
use Rattle.operations.specs.declared.row.Row.{Row}
use Rattle.operations.specs.Rows.{finished_at, without_value}
use Rattle.orders.specs.Orders.{at, alike}
use Rattle.relations.specs.Meanings.{told}
use Rattle.gathering.specs.declared.write.Write.{Write}

-- of a read and one that may be held, the one that starts later
abbrev pub later_read : Option (Row (Unit {0})) → Row (Unit {0}) → Row (Unit {0})
later_read None read = read
later_read (Some last) read = cond (nat_le read.start last.start) last read

-- the write as one more read leaves it
abbrev pub shortened_by : Write → Row (Unit {0}) → Write
shortened_by w read = record { place = w.place; row = finished_at w.row (min read.finish w.row.finish); last_read = Some (later_read w.last_read read) }

module _ {V : Type 0} (meaning : V → ℕ × ℕ) (rows : List (Row V)) where
  -- the row at the place, without its value
  abbrev pub RowAt : ℕ → Row (Unit {0}) → Type 0
  RowAt place r = (row : Row V) × (row ≡ slice_index_or rows place row) × (r ≡ without_value row)

  -- one of the rows, without its value: a read of the bay and value of the write at the place
  abbrev pub ReadOf : ℕ → Row (Unit {0}) → Type 0
  ReadOf written r =
      (place : ℕ) × (place < length rows) × RowAt place r
      × ((at (told meaning rows) place).write ≡ false) × (alike (at (told meaning rows) written) (at (told meaning rows) place) ≡ true)

  -- the write is the row at its place but for its value and its finish, and its last read is one of its reads but for its value
  pub record Kept (w : Write) : Type 0 where
    pub row : (r : Row (Unit {0})) × RowAt w.place r × (w.row ≡ finished_at r w.row.finish)
    pub last : IfSome w.last_read (ReadOf w.place)

  -- so are all of them
  abbrev pub AllKept : List Write → Type 0
  AllKept ws = (rank : ℕ) (d : Write) → rank < length ws → Kept (slice_index_or ws rank d)
