-- What is found of one bay of the rows. Assumes nothing.
use Rattle.std.specs.Prelude.{◌≡◌, ℕ, ◌⊎◌, List, Some, None, Ok, Err, Result}
use Rattle.bays.specs.Verdicts.{Overrun}
use Rattle.operations.specs.Checks.{first_failed}
use Rattle.operations.specs.Refusals.{refusal}
use Rattle.operations.specs.declared.refusal.Layer.TheVariants.{Judge}
use Rattle.orders.specs.Claims.{Judgeable}
use Rattle.orders.specs.Orders.{Operation, of_bay}
use Rattle.trying.specs.Trying.{JudgedWithin}
use Rattle.trying.specs.declared.order.BayOrder.{BayOrder}
use Rattle.judging.specs.declared.refusal.JudgeRefusal.{JudgeRefusal}
use Rattle.judging.specs.Checks.{bay_checks}
use Rattle.judging.specs.Refusals.{judge_refusal}

-- What is found of a bay of rows that a judge accepted: 12 and the faults come first, then 16.
abbrev pub RowsJudged : List Operation → (b limit : ℕ) → Result BayOrder JudgeRefusal → Type 0
RowsJudged ops b limit (Ok o) = (first_failed (bay_checks ops b) ≡ None) × Judgeable ops (of_bay b) × JudgedWithin ops b limit (Ok o)
RowsJudged ops b limit (Err e) = (first_failed (bay_checks ops b) ≡ Some (judge_refusal e)) ⊎ ((first_failed (bay_checks ops b) ≡ None) × Overrun ops b limit × (judge_refusal e ≡ refusal 16 b Judge))
