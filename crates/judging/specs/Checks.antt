-- What is checked before judging, in order. Assumes nothing.
use Rattle.std.specs.Prelude.{ℕ, Bool, ◌&&◌, List, ◌∷◌, length, nat_le}
use Rattle.bays.specs.Faults.{value_checks}
use Rattle.operations.specs.declared.refusal.Layer.TheVariants.{Judge}
use Rattle.operations.specs.declared.refusal.Refusal.{Refusal}
use Rattle.operations.specs.Refusals.{refusal}
use Rattle.orders.specs.Orders.{Operation, write_count, of_bay}

-- what is checked of the operations of one bay
abbrev pub bay_checks : List Operation → (bay : ℕ) → List (Bool × Refusal)
bay_checks ops bay = (nat_le (write_count ops bay) 64, refusal 12 bay Judge) ∷ value_checks ops (of_bay bay) Judge

-- all that is checked before the trials of one bay
abbrev pub judge_checks : List Operation → (bay limit entries : ℕ) → List (Bool × Refusal)
judge_checks ops bay limit entries =
    (nat_le bay 63, refusal 8 bay Judge)
    ∷ ((nat_le 1 limit && nat_le limit 1000000, refusal 9 limit Judge)
    ∷ ((nat_le 64 entries, refusal 10 entries Judge)
    ∷ ((nat_le (length ops) 512, refusal 11 (length ops) Judge)
    ∷ bay_checks ops bay)))
