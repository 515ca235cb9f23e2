-- What judging one bay answers. Assumes nothing.
use Rattle.std.specs.Prelude.{◌≡◌, ℕ, ◌<◌, ◌≤◌, ◌⊎◌, ◌↔◌, List, ◌++◌, length, drop, Some, None, Ok, Err, Result}
use Rattle.bays.specs.Verdicts.{BayJudged, Overrun}
use Rattle.operations.specs.Checks.{first_failed}
use Rattle.operations.specs.declared.refusal.Layer.TheVariants.{Judge}
use Rattle.operations.specs.Refusals.{refusal}
use Rattle.orders.specs.Orders.{Operation, Lawful, LeastAge, largest_age, of_bay, write_count, bay_graph}
use Rattle.orders.specs.RunUps.{ValueOrder}
use Rattle.judging.specs.declared.judgment.Judgment.{Judgment}
use Rattle.judging.specs.declared.refusal.JudgeRefusal.{JudgeRefusal}
use Rattle.judging.specs.Checks.{judge_checks}
use Rattle.judging.specs.Refusals.{judge_refusal}

-- The report of an accepted judge: no check fails, the trials are within the limit, and the sheet begins with the order and is as
-- it was behind it. The age is the least largest age of all lawful orders of the bay, and value orders are what lawful orders
-- leave of the writes: one for k exists exactly when some lawful order of the bay has no larger age than k.
pub record Reported (ops : List Operation) (bay limit : ℕ) (sheet sheet' : List ℕ) (j : Judgment) : Type 0 where
  pub order : List ℕ
  pub passed : first_failed (judge_checks ops bay limit (length sheet)) ≡ None
  pub judged : BayJudged ops bay j.age j.trials order
  pub within : j.trials ≤ limit
  pub writes : j.writes ≡ write_count ops bay
  pub filled : sheet' ≡ order ++ drop j.writes sheet
  pub least : LeastAge ops (of_bay bay) j.age
  pub orders : (k : ℕ) → 1 ≤ k → 0 < write_count ops bay → ((run : List ℕ) × ValueOrder (bay_graph ops bay) k run) ↔ ((lawful : List ℕ) × Lawful ops (of_bay bay) lawful × (largest_age ops (of_bay bay) lawful ≤ k))

-- a refusal is that of the first check that fails, or, where none fails, 16 because the trials pass the limit; it leaves the sheet
abbrev pub Judged : List Operation → (bay limit : ℕ) → (sheet sheet' : List ℕ) → Result Judgment JudgeRefusal → Type 0
Judged ops bay limit sheet sheet' (Ok j) = Reported ops bay limit sheet sheet' j
Judged ops bay limit sheet sheet' (Err e) =
    (sheet' ≡ sheet)
    × ((first_failed (judge_checks ops bay limit (length sheet)) ≡ Some (judge_refusal e))
    ⊎ ((first_failed (judge_checks ops bay limit (length sheet)) ≡ None) × Overrun ops bay limit × (judge_refusal e ≡ refusal 16 bay Judge)))
