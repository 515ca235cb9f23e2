-- What cabinets and rows of a log's storage hold. Assumes nothing.
use Rattle.std.specs.Prelude.{◌≡◌, ℕ, ◌+◌, ◌<◌, ◌≤◌, Bool, true, false, List, [], ◌∷◌, ◌==◌, slice_index_or}
use Rattle.operations.specs.Rows.{Valid}
use Rattle.operations.specs.declared.row.Row.{Row}
use Rattle.operations.specs.declared.row.Sort.{Sort}
use Rattle.operations.specs.declared.row.Sort.TheVariants.{Read, Write}
use Rattle.logs.specs.declared.cabinet.Cabinet.{Cabinet}
use Rattle.logs.specs.declared.cabinet.Cabinet.TheVariants.{Idle, Reading, Writing}

abbrev pub is_idle : Cabinet → Bool
is_idle Idle = true
is_idle (Reading _ _) = false
is_idle (Writing _ _) = false

-- the cabinet with an operation of this sort
abbrev pub occupied : Sort → ℕ → ℕ → Cabinet
occupied Read bay begun = Reading bay begun
occupied Write bay begun = Writing bay begun

-- whether what the cabinet holds has this sort and begin tick
abbrev pub holds : Sort → ℕ → Cabinet → Bool
holds sort begun Idle = false
holds Read begun (Reading bay tick) = tick == begun
holds Write begun (Reading bay tick) = false
holds Read begun (Writing bay tick) = false
holds Write begun (Writing bay tick) = tick == begun

-- the bay and the begin tick of what it holds
abbrev pub bay_of : Cabinet → ℕ
bay_of Idle = 0
bay_of (Reading bay begun) = bay
bay_of (Writing bay begun) = bay

abbrev pub begun_of : Cabinet → ℕ
begun_of Idle = 0
begun_of (Reading bay begun) = begun
begun_of (Writing bay begun) = begun

-- how many cabinets are not idle
abbrev pub waits : Cabinet → ℕ
waits Idle = 0
waits (Reading _ _) = 1
waits (Writing _ _) = 1

abbrev pub busy : List Cabinet → ℕ
busy [] = 0
busy (c ∷ cs) = waits c + busy cs

-- what each cabinet holds is of a bay, and was begun at the latest at this tick
abbrev pub AllHeld : ℕ → List Cabinet → Type 0
AllHeld next cabinets = (k : ℕ) → (bay_of (slice_index_or cabinets k Idle) ≤ 63) × (begun_of (slice_index_or cabinets k Idle) ≤ next)

-- the cabinet holds an operation of this sort and begin tick, in this bay
pub record Found (cabinets : List Cabinet) (next waiting : ℕ) (sort : Sort) (cabinet begun bay : ℕ) : Type 0 where
  pub held : holds sort begun (slice_index_or cabinets cabinet Idle) ≡ true
  pub there : bay ≡ bay_of (slice_index_or cabinets cabinet Idle)
  pub known : cabinet ≤ 63
  pub low : bay ≤ 63
  pub past : begun ≤ next
  -- it is one of those that wait
  pub one : waits (slice_index_or cabinets cabinet Idle) ≡ 1
  pub some : 1 ≤ waiting

-- the first n rows are operations'
abbrev pub ValidUpTo : {V : Type 0} → List (Row V) → ℕ → Type 0
ValidUpTo {V} rows n = (place : ℕ) (d : Row V) → place < n → Valid (slice_index_or rows place d)
