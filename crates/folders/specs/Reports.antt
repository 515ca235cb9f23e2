-- What is reported of a folder. Assumes nothing.
use Rattle.std.specs.Prelude.{ℕ, ◌⊎◌, List, Ok, Err, option_map, vec_items, String, Option, Result, ⊤}
use Rattle.std.specs.declared.alloc.Global.{Global}
use Rattle.folders.specs.Folders.{OpenedFolder}
use Rattle.folders.specs.declared.failed.Failed.{Failed}
use Rattle.folders.specs.declared.failed.Failed.TheVariants.{Unreported, Unread}
use Rattle.folders.specs.declared.folder.Folder.{Folder}
use Rattle.operations.specs.Rooms.{held}
use Rattle.operations.specs.declared.row.Row.{Row}
use Rattle.reports.specs.declared.unreported.Unreported.{Unreported as Reason}

-- The folder is opened, and this is what is reported on its table's rows and the bytes of its list; or the folder is not opened, and
-- that is said.
abbrev pub Reported : {V : Type 0} → (ℕ → Option V) → (List (Row V) → Option (List ℕ) → Result (String Global) Reason → Type 0) → Result (String Global) Failed → Type 0
Reported {V} reads On (Ok text) = (folder : Folder V) × OpenedFolder reads (Ok folder) × On (held folder.table.rows) (option_map vec_items folder.list) (Ok text)
Reported {V} reads On (Err (Unreported why)) = OpenedFolder reads (Err (Unreported why)) ⊎ ((folder : Folder V) × OpenedFolder reads (Ok folder) × On (held folder.table.rows) (option_map vec_items folder.list) (Err why))
Reported reads On (Err (Unread error)) = ⊤
