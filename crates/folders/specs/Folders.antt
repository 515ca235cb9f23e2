-- What is opened of a folder, and what ends a program as a failure. Assumes nothing.
use Rattle.std.specs.Prelude.{ℕ, List, Ok, Err, Option, Result, ⊤}
use Rattle.files.specs.Beginnings.{AtMost}
use Rattle.folders.specs.declared.failed.Failed.{Failed}
use Rattle.folders.specs.declared.failed.Failed.TheVariants.{Unreported, Unread}
use Rattle.folders.specs.declared.folder.Folder.{Folder}
use Rattle.reports.specs.Reporting.{OpenedTable}
use Rattle.reports.specs.declared.unreported.Unreported.TheVariants.{NoMemory}

-- The table of some file is opened, and of a list no more is kept than one byte more than a list may have; or some file's table is
-- missing or refused; or a file cannot be read. Which file was read cannot be said.
abbrev pub OpenedFolder : {V : Type 0} → (ℕ → Option V) → Result (Folder V) Failed → Type 0
OpenedFolder reads (Ok folder) = ((file : Option (List ℕ)) × OpenedTable reads file (Ok folder.table)) × AtMost 2049 folder.list
OpenedFolder reads (Err (Unreported why)) = (file : Option (List ℕ)) × OpenedTable reads file (Err why)
OpenedFolder reads (Err (Unread error)) = ⊤

-- nothing is reported for want of memory, or because a file cannot be read
abbrev pub Fails : {T : Type 0} → Result T Failed → Type 0
Fails (Ok text) = ⊥
Fails (Err (Unread error)) = ⊤
Fails (Err (Unreported (NoMemory error))) = ⊤
Fails (Err (Unreported why)) = ⊥
