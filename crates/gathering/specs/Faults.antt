-- Which fault is refused. Assumes nothing.
use Rattle.std.specs.Prelude.{◌≡◌, ℕ, ◌<◌, ◌≤◌, List, Some, None, Ok, Err, Result}
use Rattle.bays.specs.Faults.{value_checks}
use Rattle.operations.specs.Checks.{first_failed}
use Rattle.operations.specs.Refusals.{refusal}
use Rattle.operations.specs.declared.refusal.Layer.{Layer}
use Rattle.operations.specs.declared.refusal.Refusal.{Refusal}
use Rattle.orders.specs.Orders.{Operation, of_bay, write_count}
use Rattle.gathering.specs.declared.faults.Fault.{Fault}
use Rattle.gathering.specs.declared.faults.Fault.TheVariants.{WrittenTwice, Unwritten, Foreseen}
use Rattle.gathering.specs.declared.faults.Faults.{Faults}
use Rattle.gathering.specs.declared.faults.Unspared.{Unspared}
use Rattle.gathering.specs.declared.faults.Unspared.TheVariants.{TooManyWrites, Faulty}

-- a fault is refused where there is none before it
abbrev pub Refuses : Faults → Fault → Type 0
Refuses f (WrittenTwice place) = f.written_twice ≡ Some place
Refuses f (Unwritten place) = (f.written_twice ≡ None) × (f.unwritten ≡ Some place)
Refuses f (Foreseen place) = (f.written_twice ≡ None) × (f.unwritten ≡ None) × (f.foreseen ≡ Some place)

-- or there is none
abbrev pub Spares : Faults → Result (Unit {0}) Fault → Type 0
Spares f (Ok done) = (f.written_twice ≡ None) × (f.unwritten ≡ None) × (f.foreseen ≡ None)
Spares f (Err e) = Refuses f e

-- the refusal of a fault, by the layer that refuses it
abbrev pub fault_refusal : Layer → Fault → Refusal
fault_refusal by (WrittenTwice place) = refusal 13 place by
fault_refusal by (Unwritten place) = refusal 14 place by
fault_refusal by (Foreseen place) = refusal 15 place by

-- bay b has more than 64 writes; or it has not, and a fault of it is refused, whichever layer refuses
abbrev pub Unspares : List Operation → (b : ℕ) → Unspared → Type 0
Unspares ops b TooManyWrites = 64 < write_count ops b
Unspares ops b (Faulty fault) = (write_count ops b ≤ 64) × ((by : Layer) → first_failed (value_checks ops (of_bay b) by) ≡ Some (fault_refusal by fault))
