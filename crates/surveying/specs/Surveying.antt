-- What the survey of a crane answers, from its operations and the limit on trials. Assumes nothing.
use Rattle.std.specs.Prelude.{ℕ, zero, suc, Bool, cond, ◌&&◌, List, [], ◌∷◌, ◌++◌, length, Some, None, Ok, Err, Option, Result, nat_le, nat_lt}
use Rattle.operations.specs.Checks.{first_failed, each_below}
use Rattle.operations.specs.Refusals.{refusal}
use Rattle.operations.specs.declared.refusal.Layer.TheVariants.{Survey}
use Rattle.operations.specs.declared.refusal.Refusal.{Refusal}
use Rattle.orders.specs.Listing.{tried_age, tried_trials, tried_order}
use Rattle.orders.specs.Orders.{Operation, at, of_bay, whole, write_count, bay_graph}
use Rattle.orders.specs.Places.{total, top, some}
use Rattle.bays.specs.Faults.{value_checks}
use Rattle.bays.specs.Verdicts.{has_read}
use Rattle.surveying.specs.declared.finding.Finding.{Finding}
use Rattle.surveying.specs.declared.report.Report.{Report}
use Rattle.surveying.specs.declared.refusal.SurveyRefusal.{SurveyRefusal}
use Rattle.surveying.specs.Refusals.{survey_refusal}

-- how many bays a crane has
unfoldable pub crane_bays : ℕ
crane_bays = 64

-- what judging bay b comes to: its age, 0 without a read,
unfoldable pub judged_age : List Operation → ℕ → ℕ
judged_age ops b = cond (nat_lt 0 (write_count ops b)) (cond (has_read ops b) (tried_age (bay_graph ops b) (length ops)) 0) 0

-- the trials of all k that are tried, 0 without a write,
unfoldable pub judged_trials : List Operation → ℕ → ℕ
judged_trials ops b = cond (nat_lt 0 (write_count ops b)) (tried_trials (bay_graph ops b) (length ops)) 0

-- and the value order that is found, by places
unfoldable pub judged_order : List Operation → ℕ → List ℕ
judged_order ops b = cond (nat_lt 0 (write_count ops b)) (tried_order (bay_graph ops b) (length ops)) []

-- the sum of the trials of the bays below n
abbrev pub trials_below : List Operation → ℕ → ℕ
trials_below ops n = total n (judged_trials ops)

-- no bay has more than 64 writes
abbrev pub write_checks : List Operation → List (Bool × Refusal)
write_checks ops = each_below crane_bays (λ b. (nat_le (write_count ops b) 64, refusal 12 b Survey) ∷ [])

-- the running total of trials stays within the limit
abbrev pub trial_checks : List Operation → (limit : ℕ) → List (Bool × Refusal)
trial_checks ops limit = each_below crane_bays (λ b. (nat_le (trials_below ops (suc b)) limit, refusal 16 b Survey) ∷ [])

-- all that is checked, in order: the limit, how many operations there are, the writes of each bay, the values, and the trials
abbrev pub survey_checks : List Operation → (limit : ℕ) → List (Bool × Refusal)
survey_checks ops limit =
    (nat_le 1 limit && nat_le limit 1000000, refusal 9 limit Survey)
    ∷ ((nat_le (length ops) 512, refusal 11 (length ops) Survey)
    ∷ (write_checks ops ++ (value_checks ops whole Survey ++ trial_checks ops limit)))

-- the report: the bays' largest age, the sum of their trials, and how many operations there are
abbrev pub report_of : List Operation → Report
report_of ops = record { age = top crane_bays (judged_age ops); trials = trials_below ops crane_bays; kept = length ops }

-- the refusal of a failed check, or the report where none failed
abbrev pub answer_by : Report → Option Refusal → Result Report Refusal
answer_by report None = Ok report
answer_by report (Some e) = Err e

-- what a survey answers
abbrev pub survey_answer : List Operation → (limit : ℕ) → Result Report Refusal
survey_answer ops limit = answer_by (report_of ops) (first_failed (survey_checks ops limit))

-- an answer with its refusal told by number, place and layer
abbrev pub told_answer : Result Report SurveyRefusal → Result Report Refusal
told_answer (Ok report) = Ok report
told_answer (Err e) = Err (survey_refusal e)

-- bay b has an operation
abbrev pub has_operation : List Operation → ℕ → Bool
has_operation ops b = some (length ops) (λ p. of_bay b (at ops p))

-- what is found of bay b
abbrev pub finding : List Operation → ℕ → Finding
finding ops b = record { bay = b; age = judged_age ops b; writes = write_count ops b }

-- what is found of the bays below n that have operations, ascending
abbrev pub findings_below : List Operation → ℕ → List Finding
findings_below ops zero = []
findings_below ops (suc n) = findings_below ops n ++ cond (has_operation ops n) (finding ops n ∷ []) []

-- the value orders of the bays below n, one behind the other
abbrev pub orders_below : List Operation → ℕ → List ℕ
orders_below ops zero = []
orders_below ops (suc n) = orders_below ops n ++ judged_order ops n
