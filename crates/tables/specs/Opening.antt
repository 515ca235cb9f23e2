-- What opening answers. Assumes nothing.
use Rattle.std.specs.Prelude.{◌≡◌, ℕ, List, Some, None, Ok, Err, Option, Result}
use Rattle.operations.specs.Rooms.{held}
use Rattle.tables.specs.declared.refusal.TableRefusal.{TableRefusal}
use Rattle.tables.specs.declared.table.Table.{Table}
use Rattle.operations.specs.Checks.{first_failed}
use Rattle.tables.specs.Records.{Shows, table_checks}
use Rattle.tables.specs.Refusals.{table_refusal}

-- a table that shows exactly the records of the file where no check fails, or else the refusal of the first check that fails
abbrev pub Opened : {V : Type 0} → (ℕ → Option V) → List ℕ → Result (Table V) TableRefusal → Type 0
Opened reads bytes (Ok t) = (first_failed (table_checks reads bytes) ≡ None) × Shows reads bytes (held t.rows)
Opened reads bytes (Err e) = first_failed (table_checks reads bytes) ≡ Some (table_refusal e)
