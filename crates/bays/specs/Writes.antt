-- The writes of a bay by their places. Assumes nothing.
use Rattle.std.specs.Prelude.{ℕ, zero, suc, Bool, cond, List, [], ◌∷◌, ◌++◌, length}
use Rattle.orders.specs.Orders.{Operation, writes}

-- the places below n that pass the test, ascending
abbrev pub passing : ℕ → (ℕ → Bool) → List ℕ
passing zero test = []
passing (suc n) test = passing n test ++ cond (test n) (n ∷ []) []

-- the places of the writes of bay b, ascending; where a write stands among them is its rank
abbrev pub write_places : List Operation → ℕ → List ℕ
write_places ops b = passing (length ops) (writes ops b)
