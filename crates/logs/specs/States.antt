-- What a storage holds of its log. Assumes nothing.
use Rattle.std.specs.Prelude.{ℕ, List, [], length, take, replicate}
use Rattle.operations.specs.declared.row.Row.{Row}
use Rattle.logs.specs.declared.cabinet.Cabinet.{Cabinet}
use Rattle.logs.specs.declared.cabinet.Cabinet.TheVariants.{Idle}
use Rattle.logs.specs.declared.storage.Storage.{Storage}

pub record State (V : Type 0) : Type 0 where
  pub cabinets : List Cabinet
  pub next : ℕ
  -- how many cabinets are not idle
  pub waiting : ℕ
  -- how many entries the storage has
  pub entries : ℕ
  -- the operations that ended, in the order of their ends
  pub ended : List (Row V)

abbrev pub state : {V : Type 0} → List Cabinet → ℕ → ℕ → ℕ → List (Row V) → State V
state cabinets next waiting entries ended = record { cabinets = cabinets; next = next; waiting = waiting; entries = entries; ended = ended }

abbrev pub state_of : {V : Type 0} → Storage V → State V
state_of s = state s.cabinets s.next s.waiting (length s.ended.items.now) (take s.ended.len s.ended.items.now)

-- opened at this tick: every cabinet is idle, and nothing ended
abbrev pub opened_at : {V : Type 0} → ℕ → ℕ → State V
opened_at first entries = state (replicate 64 Idle) first 0 entries []
