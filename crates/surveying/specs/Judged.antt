-- What judging the bays of a crane one after the other comes to. Assumes nothing.
use Rattle.std.specs.Prelude.{◌≡◌, ℕ, suc, ◌<◌, ◌≤◌, List, length, Ok, Err, Result}
use Rattle.lists.specs.Lists.{listed}
use Rattle.operations.specs.Rows.{AllValid}
use Rattle.operations.specs.declared.row.Row.{Row}
use Rattle.orders.specs.Orders.{Operation, write_count}
use Rattle.trying.specs.declared.order.BayOrder.{BayOrder}
use Rattle.relations.specs.Meanings.{told}
use Rattle.surveying.specs.Faults.{Spared}
use Rattle.surveying.specs.declared.finding.Finding.{Finding}
use Rattle.surveying.specs.declared.report.Report.{Report}
use Rattle.surveying.specs.declared.refusal.SurveyRefusal.{SurveyRefusal}
use Rattle.surveying.specs.declared.refusal.SurveyRefusal.TheVariants.{OverLimit}
use Rattle.surveying.specs.Surveying.{crane_bays, judged_age, judged_trials, judged_order, trials_below, report_of, findings_below, orders_below}

-- rows of operations that a survey spares
pub record Judging {V : Type 0} (meaning : V → ℕ × ℕ) (rows : List (Row V)) : Type 0 where
  pub valid : AllValid rows
  pub spared : Spared (told meaning rows)

-- what is found of bay b with so many trials left
pub record FoundIn (ops : List Operation) (b left : ℕ) (found : BayOrder) : Type 0 where
  pub age : found.age ≡ judged_age ops b
  pub trials : found.trials ≡ judged_trials ops b
  pub within : found.trials ≤ left
  pub writes : length (listed found.places) ≡ write_count ops b
  pub order : listed found.places ≡ judged_order ops b

-- or its trials are more
abbrev pub BayFound : List Operation → (b left : ℕ) → Result BayOrder SurveyRefusal → Type 0
BayFound ops b left (Ok found) = FoundIn ops b left found
BayFound ops b left (Err e) = (left < judged_trials ops b) × (e ≡ OverLimit b)

-- the bay at which the running total first passes the limit
pub record PassesAt (ops : List Operation) (limit : ℕ) (e : SurveyRefusal) : Type 0 where
  pub bay : ℕ
  pub inside : bay < crane_bays
  pub within : trials_below ops bay ≤ limit
  pub over : limit < trials_below ops (suc bay)
  pub refused : e ≡ OverLimit bay

-- the report with the findings and orders of all bays
pub record AllFound (ops : List Operation) (limit : ℕ) (findings : List Finding) (orders : List ℕ) (report : Report) : Type 0 where
  pub reported : report ≡ report_of ops
  pub within : trials_below ops crane_bays ≤ limit
  pub found : findings ≡ findings_below ops crane_bays
  pub ordered : orders ≡ orders_below ops crane_bays

-- all bays are judged within the limit, or the trials pass it
abbrev pub BaysFound : List Operation → (limit : ℕ) → List Finding → List ℕ → Result Report SurveyRefusal → Type 0
BaysFound ops limit findings orders (Ok report) = AllFound ops limit findings orders report
BaysFound ops limit findings orders (Err e) = PassesAt ops limit e
