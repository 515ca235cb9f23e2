-- What a survey leaves on its desk, and all that is said of its answer. Assumes nothing.
use Rattle.std.specs.Prelude.{◌≡◌, ℕ, List, Ok, Err, Result}
use Rattle.orders.specs.Orders.{Operation}
use Rattle.surveying.specs.declared.finding.Finding.{Finding}
use Rattle.surveying.specs.declared.report.Report.{Report}
use Rattle.surveying.specs.declared.refusal.SurveyRefusal.{SurveyRefusal}
use Rattle.surveying.specs.Laws.{SurveyLaws}
use Rattle.surveying.specs.Surveying.{crane_bays, survey_answer, told_answer, findings_below, orders_below}

-- an accepted survey leaves the findings and the orders of all bays
abbrev pub Kept : List Operation → List Finding → List ℕ → Result Report SurveyRefusal → Type 0
Kept ops findings orders (Ok report) = (findings ≡ findings_below ops crane_bays) × (orders ≡ orders_below ops crane_bays)
Kept ops findings orders (Err e) = Unit {0}

-- the answer is the one that the checks decide, it obeys the laws, and the desk has what was found
pub record Surveyed (ops : List Operation) (limit : ℕ) (findings : List Finding) (orders : List ℕ) (answer : Result Report SurveyRefusal) : Type 0 where
  pub decided : told_answer answer ≡ survey_answer ops limit
  pub laws : SurveyLaws ops limit (told_answer answer)
  pub kept : Kept ops findings orders answer
