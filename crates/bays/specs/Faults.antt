-- What can be wrong with the values of operations, and the checks for it. Assumes nothing.
use Rattle.std.specs.Prelude.{◌≡◌, ℕ, ◌<◌, Bool, true, false, not, ◌&&◌, List, [], ◌∷◌, ◌++◌, length, Some, None, Option}
use Rattle.operations.specs.Checks.{each_below}
use Rattle.operations.specs.Refusals.{refusal}
use Rattle.operations.specs.declared.refusal.Layer.{Layer}
use Rattle.operations.specs.declared.refusal.Refusal.{Refusal}
use Rattle.orders.specs.Orders.{Operation, at, before, alike, write_of}
use Rattle.orders.specs.Places.{some}

-- place p holds a write whose value an earlier write of its bay has
abbrev pub written_twice : List Operation → ℕ → Bool
written_twice ops p = (at ops p).write && some p (λ q. (at ops q).write && alike (at ops q) (at ops p))

-- place p holds a read whose bay has no write of its value
abbrev pub unwritten : List Operation → ℕ → Bool
unwritten ops p = not (at ops p).write && not (some (length ops) (λ q. (at ops q).write && alike (at ops q) (at ops p)))

-- place p holds a read that is before its write
abbrev pub foreseen : List Operation → ℕ → Bool
foreseen ops p = not (at ops p).write && before (at ops p) (at ops (write_of ops (at ops p)))

-- place p holds an operation with the fault, which is among those that are held
abbrev pub faulty : (Operation → Bool) → (List Operation → ℕ → Bool) → List Operation → ℕ → Bool
faulty held fault ops p = held (at ops p) && fault ops p

-- a fault is looked for at every place, from the lowest on
abbrev pub fault_checks : (Operation → Bool) → (List Operation → ℕ → Bool) → (number : ℕ) → Layer → List Operation → List (Bool × Refusal)
fault_checks held fault number by ops = each_below (length ops) (λ p. (not (faulty held fault ops p), refusal number p by) ∷ [])

-- 13 is looked for at every place before 14, and 14 before 15
abbrev pub value_checks : List Operation → (Operation → Bool) → Layer → List (Bool × Refusal)
value_checks ops held by = fault_checks held written_twice 13 by ops ++ (fault_checks held unwritten 14 by ops ++ fault_checks held foreseen 15 by ops)

-- the lowest place below n that passes the test, if one does
abbrev pub Lowest : ℕ → (ℕ → Bool) → Option ℕ → Type 0
Lowest n test (Some p) = (p < n) × (test p ≡ true) × ((q : ℕ) → q < p → test q ≡ false)
Lowest n test None = (q : ℕ) → q < n → test q ≡ false
