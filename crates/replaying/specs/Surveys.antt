-- What a survey of a closed log answers. Assumes nothing.
use Rattle.std.specs.Prelude.{◌≡◌, ℕ, ◌⊎◌, List, length, Ok, Err, Result}
use Rattle.leaving.specs.Leaving.{unlisted, BaysUpTo, NoBayIn}
use Rattle.operations.specs.Refusals.{no_bay}
use Rattle.operations.specs.declared.refusal.NoBay.{NoBay}
use Rattle.operations.specs.declared.refusal.Refusal.{Refusal}
use Rattle.operations.specs.declared.row.Row.{Row}
use Rattle.orders.specs.Orders.{Operation}
use Rattle.relations.specs.Meanings.{told}
use Rattle.surveying.specs.Laws.{SurveyLaws}
use Rattle.surveying.specs.Surveying.{crane_bays, survey_answer, findings_below, orders_below}
use Rattle.surveying.specs.declared.finding.Finding.{Finding}
use Rattle.surveying.specs.declared.report.Report.{Report}
use Rattle.lives.specs.Calls as life
use Rattle.lives.specs.Life.{SurveyRuleOf}
use Rattle.replaying.specs.Scripts.{answered}

-- the survey of operations whose values have these meanings
pub record SurveyTells {V : Type 0} (meaning : V → ℕ × ℕ) (rows : List (Row V)) (limit : ℕ) (answer : Result life.Report Refusal) : Type 0 where
  -- the answer is the one that the checks decide
  pub decided : answer ≡ answered (survey_answer (told meaning rows) limit)
  -- and that one obeys the laws of surveys
  pub laws : SurveyLaws (told meaning rows) limit (survey_answer (told meaning rows) limit)

-- the rule by which the surveys of a life answer
abbrev pub survey_rule : {V : Type 0} → (V → ℕ × ℕ) → SurveyRuleOf V
survey_rule meaning = SurveyTells meaning

-- refusal 6 where an entry of the list is no bay, or else what the rule says of the rows without the listed bays
abbrev pub Surveys : {V : Type 0} → SurveyRuleOf V → List (Row V) → List ℕ → ℕ → Result Report Refusal → Type 0
Surveys rule rows bays limit r =
    ((e : NoBay) × NoBayIn bays e × (r ≡ Err (no_bay e))) ⊎ (BaysUpTo bays (length bays) × rule (unlisted bays rows) limit (answered r))

-- an accepted survey leaves what it found of all bays
abbrev pub Finds : List Operation → List Finding → List ℕ → Result Report Refusal → Type 0
Finds ops findings orders (Ok report) = (findings ≡ findings_below ops crane_bays) × (orders ≡ orders_below ops crane_bays)
Finds ops findings orders (Err e) = Unit {0}
