-- How surveys of a closed log go into its lives. Assumes nothing.
use Rattle.std.specs.Prelude.{◌≡◌, ℕ, Bool, false, List, length, Option, Result}
use Rattle.leaving.specs.Leaving.{unlisted, BaysUpTo, NoBayIn}
use Rattle.operations.specs.Refusals.{no_bay}
use Rattle.operations.specs.declared.refusal.NoBay.{NoBay}
use Rattle.operations.specs.declared.refusal.Refusal.{Refusal}
use Rattle.lives.specs.Calls.{Event, Refused, Survey, Report, call_of, is_survey, survey_event}
use Rattle.lives.specs.Life.{SurveyRuleOf, listed}
use Rattle.logs.specs.States.{State}
use Rattle.logs.specs.Stands.{Carries, CarriesBy}

-- lives whose surveys answer by the rule
pub record Carried {V : Type 0} (rule : SurveyRuleOf V) : Type 0 where
  -- a call of the log itself carries them on as it does all lives
  pub calls : (while : Bool) (s t : State V) (e : Event V) → is_survey (call_of e) ≡ false → Carries while s e t → CarriesBy rule while s e t
  -- so does a survey that was refused since an entry of its list is no bay
  pub no_bays : (s : State V) (bays : Option (List ℕ)) (limit : ℕ) (e : NoBay) → NoBayIn (listed bays) e → CarriesBy rule false s (Refused (Survey bays limit) (no_bay e)) s
  -- and one that answered by the rule for what the closed log shows, less the listed bays
  pub surveys : (s : State V) (bays : Option (List ℕ)) (limit : ℕ) (answer : Result Report Refusal) → BaysUpTo (listed bays) (length (listed bays)) → rule (unlisted (listed bays) s.ended) limit answer → CarriesBy rule false s (survey_event bays limit answer) s
