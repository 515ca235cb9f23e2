-- What is reported on a table and a list of bays. Assumes nothing.
use Rattle.std.specs.Prelude.{◌≡◌, ℕ, ◌⊎◌, List, [], length, Some, None, Ok, Err, string_bytes, String, Option, Result, ⊤}
use Rattle.std.specs.Borrow.{Bor}
use Rattle.std.specs.declared.alloc.Global.{Global}
use Rattle.leaving.specs.Leaving.{BaysUpTo, NoBayIn}
use Rattle.operations.specs.Checks.{first_failed}
use Rattle.operations.specs.Refusals.{no_bay}
use Rattle.operations.specs.Rooms.{held}
use Rattle.operations.specs.declared.refusal.NoBay.{NoBay}
use Rattle.operations.specs.declared.refusal.Refusal.{Refusal}
use Rattle.operations.specs.declared.room.Room.{Room}
use Rattle.operations.specs.declared.row.Row.{Row}
use Rattle.reports.specs.Accounts.{account_words}
use Rattle.reports.specs.declared.unreported.Unreported.{Unreported}
use Rattle.reports.specs.declared.unreported.Unreported.TheVariants.{NoTable, Refused, NoMemory}
use Rattle.tables.specs.Lists.{Lists, list_checks}
use Rattle.tables.specs.Records.{Shows, table_checks}
use Rattle.tables.specs.declared.table.Table.{Table}

-- the bytes of a file that may be missing
abbrev pub contents : Option (Bor (List ℕ)) → Option (List ℕ)
contents None = None
contents (Some bytes) = Some bytes.now

-- of a file that may be missing: it is there, and of its bytes the rest is so
abbrev pub OfBytes : Option (List ℕ) → (List ℕ → Type 0) → Type 0
OfBytes None P = ⊥
OfBytes (Some bytes) P = P bytes

-- a table is opened, or it is missing, or the first check that its bytes fail refuses it
abbrev pub OpenedTable : {V : Type 0} → (ℕ → Option V) → Option (List ℕ) → Result (Table V) Unreported → Type 0
OpenedTable reads file (Ok table) = OfBytes file (λ bytes. (first_failed (table_checks reads bytes) ≡ None) × Shows reads bytes (held table.rows))
OpenedTable reads file (Err NoTable) = file ≡ None
OpenedTable reads file (Err (Refused e)) = OfBytes file (λ bytes. first_failed (table_checks reads bytes) ≡ Some e)
OpenedTable reads file (Err (NoMemory e)) = ⊤

-- the bays that a list file lists; a file that is missing lists none
abbrev pub Listed : Option (List ℕ) → List ℕ → Type 0
Listed None bays = bays ≡ []
Listed (Some bytes) bays = (first_failed (list_checks bytes) ≡ None) × Lists bytes bays

-- the first check that the bytes of a list file fail refuses it
abbrev pub ListRefused : Option (List ℕ) → Refusal → Type 0
ListRefused file e = OfBytes file (λ bytes. first_failed (list_checks bytes) ≡ Some e)

-- the bays of an opened list that may be absent
abbrev pub listed_bays : Option (Room ℕ) → List ℕ
listed_bays None = []
listed_bays (Some bays) = held bays

-- a list is opened, or it is refused
abbrev pub OpenedBays : Option (List ℕ) → Result (Option (Room ℕ)) Unreported → Type 0
OpenedBays file (Ok bays) = Listed file (listed_bays bays)
OpenedBays file (Err NoTable) = ⊥
OpenedBays file (Err (Refused e)) = ListRefused file e
OpenedBays file (Err (NoMemory e)) = ⊤

-- the list is refused, or one of its entries is no bay
abbrev pub BaysRefused : Option (List ℕ) → Refusal → Type 0
BaysRefused file e = ListRefused file e ⊎ ((bays : List ℕ) × (entry : NoBay) × Listed file bays × NoBayIn bays entry × (e ≡ no_bay entry))

-- the account of a table's rows without the bays of a list file that may be missing
abbrev pub Accounted : {V : Type 0} → (V → List ℕ) → List (Row V) → Option (List ℕ) → Result (String Global) Unreported → Type 0
Accounted words rows file (Ok text) = (bays : List ℕ) × Listed file bays × BaysUpTo bays (length bays) × (string_bytes text ≡ account_words words rows bays)
Accounted words rows file (Err NoTable) = ⊥
Accounted words rows file (Err (Refused e)) = BaysRefused file e
Accounted words rows file (Err (NoMemory e)) = ⊤
