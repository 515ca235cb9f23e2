-- Checks in the order in which they are made. Assumes nothing.
use Rattle.std.specs.Prelude.{ℕ, zero, suc, Bool, cond, List, [], ◌∷◌, ◌++◌, Some, None, Option}

-- A check is a test with what is told where it fails. Of several, the first that fails decides; nothing is told where none fails.
abbrev pub first_failed : {E : Type 0} → List (Bool × E) → Option E
first_failed [] = None
first_failed (c ∷ cs) = let later = first_failed cs in cond c.0 later (Some c.1)

-- the checks of 0, 1, 2 and so on below n, one after the other
abbrev pub each_below : {E : Type 0} → ℕ → (ℕ → List (Bool × E)) → List (Bool × E)
each_below zero checks = []
each_below (suc n) checks = each_below n checks ++ checks n
