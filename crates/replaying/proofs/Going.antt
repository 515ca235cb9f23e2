-- Calls of a script with their answers. Assumes nothing.
use Rattle.std.proofs.Common.{◌≡◌, ℕ, Bool, false, List, ◌∷◌, Some, None, Ok, Err, Option, Result, Bor, option_map, vec_items, sym, refl, ap, ◌∙◌, inl, inr, arith}
use Rattle.std.specs.Global.{Vec}
use Rattle.leaving.specs.Leaving.{entries}
use Rattle.operations.specs.Refusals.{no_bay}
use Rattle.operations.specs.declared.refusal.Refusal.{Refusal}
use Rattle.surveying.specs.declared.report.Report.{Report}
use Rattle.lives.specs.Calls.{Event, Survey, Surveyed, Refused, call_of, is_survey}
use Rattle.lives.specs.Life.{SurveyRuleOf, listed}
use Rattle.lives.specs.Words.{recording}
use Rattle.logs.specs.States.{State}
use Rattle.logs.specs.Stands.{Carries}
use Rattle.logs.proofs.Surveying.{carried}
use Rattle.replaying.specs.Runs.{Goes}
use Rattle.replaying.specs.Scripts.{Answer, bays_of, answer_of, reported}
use Rattle.replaying.specs.Surveys.{Surveys}
use Rattle.replaying.specs.declared.answer.Accepted.TheVariants as accepted

-- a call of the log itself
pub goes : {V : Type 0} (rule : SurveyRuleOf V) (s t : State V) (before after : Bool) (e : Event V) → is_survey (call_of e) ≡ false → ((es : List (Event V)) → recording es ≡ before → recording (e ∷ es) ≡ after) → Carries before s e t → Goes rule before after s t (call_of e) (answer_of e)
goes rule s t before after e own phase carries = record { event = e; of = refl; told = refl; phase = phase; carries = (carried rule).calls before s t e own carries }

entries_are : (r : Option (Bor (List ℕ))) → entries r ≡ listed (option_map (λ x. x.now) r)
entries_are None = refl
entries_are (Some x) = refl

bays_are : (bays : Option (Vec ℕ)) → listed (option_map vec_items bays) ≡ listed (bays_of bays)
bays_are None = refl
bays_are (Some x) = refl

-- the list of bays of a survey, as it is lent
pub listed_entries : (r : Option (Bor (List ℕ))) (bays : Option (Vec ℕ)) → option_map (λ x. x.now) r ≡ option_map vec_items bays → entries r ≡ listed (bays_of bays)
listed_entries r bays e = entries_are r ∙ (ap listed e ∙ bays_are bays)

-- the answer to a survey
abbrev pub told_of : Result Report Refusal → Answer
told_of (Ok report) = Ok (accepted.Surveyed report)
told_of (Err e) = Err e

module _ {V : Type 0} (rule : SurveyRuleOf V) (s : State V) where
  pub survey_goes : (bays : Option (List ℕ)) (limit : ℕ) (r : Result Report Refusal) → Surveys rule s.ended (listed bays) limit r → Goes rule false false s s (Survey bays limit) (told_of r)
  survey_goes bays limit (Ok report) (inl h) = let e = h.2 in let never : ◌≡◌ {A = ℕ} 0 1 = cc in absurd (omega arith)
  survey_goes bays limit (Err e) (inl h) =
      let is = h.2 in
      let same : e ≡ no_bay h.0 = cc in
      record { event = Refused (Survey bays limit) (no_bay h.0); of = refl; told = ap Err (sym same); phase = λ es at. at; carries = (carried rule).no_bays s bays limit h.0 h.1 }
  survey_goes bays limit (Ok report) (inr h) =
      record { event = Surveyed bays limit (reported report); of = refl; told = refl; phase = λ es at. at; carries = (carried rule).surveys s bays limit (Ok (reported report)) h.0 h.1 }
  survey_goes bays limit (Err e) (inr h) =
      record { event = Refused (Survey bays limit) e; of = refl; told = refl; phase = λ es at. at; carries = (carried rule).surveys s bays limit (Err e) h.0 h.1 }
