-- When a row is an operation's. Assumes nothing.
use Rattle.std.specs.Prelude.{ℕ, ◌<◌, ◌≤◌, List, length, slice_index_or}
use Rattle.operations.specs.declared.row.Row.{Row}

-- the row with another finish, the rest equal
abbrev pub finished_at : {V : Type 0} → Row V → ℕ → Row V
finished_at r finish = record { sort = r.sort; bay = r.bay; cabinet = r.cabinet; value = r.value; start = r.start; finish = finish }

-- the row with another value, the rest equal
abbrev pub with_value : {V W : Type 0} → Row V → W → Row W
with_value r value = record { sort = r.sort; bay = r.bay; cabinet = r.cabinet; value = value; start = r.start; finish = r.finish }

-- the row without its value, the rest equal
abbrev pub without_value : {V : Type 0} → Row V → Row (Unit {0})
without_value r = record { sort = r.sort; bay = r.bay; cabinet = r.cabinet; value = tt; start = r.start; finish = r.finish }

-- bays and cabinets are numbered from 0 to 63 and ticks from 0 to 1073741823, and no operation starts after its finish
abbrev pub Valid : {V : Type 0} → Row V → Type 0
Valid r = (r.bay ≤ 63) × (r.cabinet ≤ 63) × (r.start ≤ r.finish) × (r.finish ≤ 1073741823)

-- each row of the list is an operation's
abbrev pub AllValid : {V : Type 0} → List (Row V) → Type 0
AllValid {V} rows = (place : ℕ) (d : Row V) → place < length rows → Valid (slice_index_or rows place d)
