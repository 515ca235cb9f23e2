-- The laws of a survey, in the words of lawful orders and their ages. Assumes nothing.
use Rattle.std.specs.Prelude.{◌≡◌, ℕ, ◌<◌, ◌≤◌, ◌⊎◌, ◌↔◌, List, [], length, None, Ok, Err, Result}
use Rattle.operations.specs.Checks.{first_failed}
use Rattle.operations.specs.Refusals.{refusal}
use Rattle.operations.specs.declared.refusal.Layer.TheVariants.{Survey}
use Rattle.operations.specs.declared.refusal.Refusal.{Refusal}
use Rattle.orders.specs.Orders.{Operation, at, whole, write_count, Timed, Lawful, LeastAge, Distinct}
use Rattle.bays.specs.Faults.{value_checks}
use Rattle.bays.specs.Verdicts.{BayJudged}
use Rattle.surveying.specs.declared.report.Report.{Report}
use Rattle.surveying.specs.Surveying.{crane_bays, judged_age, judged_trials, judged_order, survey_checks, survey_answer}

-- each operation is of a bay of the crane
abbrev pub InCrane : List Operation → Type 0
InCrane ops = (p : ℕ) → p < length ops → (at ops p).bay < crane_bays

-- what a survey takes: a limit from 1 to 1000000, at most 512 operations, and at most 64 writes a bay
pub record WithinLimits (ops : List Operation) (limit : ℕ) : Type 0 where
  pub least : 1 ≤ limit
  pub most : limit ≤ 1000000
  pub short : length ops ≤ 512
  pub few : (b : ℕ) → b < crane_bays → write_count ops b ≤ 64

-- no order of the operations is lawful
abbrev pub Lawless : List Operation → Type 0
Lawless ops = (order : List ℕ) → Lawful ops whole order → ⊥

-- some read has no write, or is before its write
abbrev pub Unfounded : Result Report Refusal → Type 0
Unfounded answer = (place : ℕ) × ((answer ≡ Err (refusal 14 place Survey)) ⊎ (answer ≡ Err (refusal 15 place Survey)))

-- What holds of every answer to a survey. It is a report exactly where no check fails. Where the values are spared, the ages, trials
-- and orders are what judging the bays comes to. The age reported is the least largest age of all lawful orders of all operations.
-- Within the limits and with no value written twice, a read is refused exactly where there is no lawful order.
pub record SurveyLaws (ops : List Operation) (limit : ℕ) (answer : Result Report Refusal) : Type 0 where
  pub reports : ((report : Report) × (answer ≡ Ok report)) ↔ (first_failed (survey_checks ops limit) ≡ None)
  pub judges : first_failed (value_checks ops whole Survey) ≡ None → (b : ℕ) → BayJudged ops b (judged_age ops b) (judged_trials ops b) (judged_order ops b)
  pub age : (report : Report) → answer ≡ Ok report → (k : ℕ) → (report.age ≡ k) ↔ LeastAge ops whole k
  pub lawless : WithinLimits ops limit → Distinct ops whole → Unfounded answer ↔ Lawless ops
  pub empty : ops ≡ [] → 1 ≤ limit → limit ≤ 1000000 → answer ≡ Ok (record { age = 0; trials = 0; kept = 0 })

-- the laws hold of every list of operations of a crane, none of which starts after its finish
abbrev pub SurveysAreLawful : Type 0
SurveysAreLawful = (ops : List Operation) (limit : ℕ) → Timed ops → InCrane ops → SurveyLaws ops limit (survey_answer ops limit)
