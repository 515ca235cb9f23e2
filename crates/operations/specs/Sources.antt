-- What a source answers. Assumes nothing.
use Rattle.std.specs.Prelude.{◌≡◌, ℕ, ◌≤◌, List, [], ◌∷◌, length, Some, None, Ok, Err, Option, Result}
use Rattle.std.specs.List.{slice_get}
use Rattle.operations.specs.declared.operation.Operation.{Operation}
use Rattle.operations.specs.declared.refusal.Layer.TheVariants as layer
use Rattle.operations.specs.declared.refusal.PastEnd.{PastEnd}
use Rattle.operations.specs.declared.row.Row.{Row}
use Rattle.operations.specs.declared.step.Step.{Step}
use Rattle.operations.specs.Refusals.{refusal, past_end}

-- the operation at the place, or refusal 7 where the place is at or past the length
abbrev pub Told : {V : Type 0} → List (Row V) → ℕ → Result (Operation V) PastEnd → Type 0
Told rows place (Ok o) = slice_get rows place ≡ Some o.row
Told rows place (Err e) = (length rows ≤ place) × (past_end e ≡ refusal 7 place layer.Source)

-- the first operation that is still to come at a position, and the position at which the others are; nothing where none is
abbrev pub Stepped : {V : Type 0} → (ℕ → List (Row V)) → ℕ → Option (Step V) → Type 0
Stepped onward position (Some s) = onward position ≡ s.operation.row ∷ onward s.next
Stepped onward position None = onward position ≡ []
