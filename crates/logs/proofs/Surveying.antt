-- Surveys carry on lives, and calls of the log those under every rule. Assumes nothing.
use Rattle.std.proofs.Common.{◌≡◌, ℕ, zero, suc, ◌+◌, ◌<◌, Bool, false, cond, not, List, [], ◌∷◌, length, get_or, Some, None, Ok, Err, Option, Result, sym, refl, ap, ◌∙◌, subst, inl, inr, arith}
use Rattle.std.proofs.lemmas.Bool.{true≢false, le-leb, lt-leb}
use Rattle.operations.specs.Checks.{first_failed}
use Rattle.leaving.specs.Leaving.{unlisted, BaysUpTo, NoBayIn}
use Rattle.operations.specs.Refusals.{refusal, no_bay}
use Rattle.operations.specs.declared.refusal.Layer.TheVariants as layer
use Rattle.operations.specs.declared.refusal.NoBay.{NoBay}
use Rattle.operations.specs.declared.refusal.Refusal.{Refusal}
use Rattle.lives.specs.Calls.{Call, Begin, End, Lose, Close, Reopen, Survey, Event, Begun, Ended, Lost, Closed, Reopened, Surveyed, Refused, Report, call_of, is_survey, survey_event}
use Rattle.lives.specs.Life.{SurveyRuleOf, any_answer, listed, bay_checks, Due, Life}
use Rattle.logs.specs.States.{State}
use Rattle.logs.specs.Stands.{Leads, Carries, CarriesBy}
use Rattle.logs.specs.Surveys.{Carried}
use Rattle.logs.proofs.Carrying.{same_leads}

-- the checks of a list of bays
bays_pass : (bays : List ℕ) (place : ℕ) → BaysUpTo bays (length bays) → first_failed (bay_checks place bays) ≡ None
bays_pass [] place h = refl
bays_pass (b ∷ bays) place h =
    ap (λ x. cond x (first_failed (bay_checks (place + 1) bays)) (Some (refusal 6 place layer.List))) (le-leb b 63 (h 0 (omega arith)))
    ∙ bays_pass bays (place + 1) (λ k l. h (suc k) (omega arith))

bays_fail : (bays : List ℕ) (place k : ℕ) → k < length bays → 63 < get_or bays k 0 → BaysUpTo bays k → first_failed (bay_checks place bays) ≡ Some (refusal 6 (place + k) layer.List)
bays_fail [] place k l above h = absurd (omega arith)
bays_fail (b ∷ bays) place zero l above h =
    let same : place ≡ place + 0 = omega arith in
    ap (λ x. cond x (first_failed (bay_checks (place + 1) bays)) (Some (refusal 6 place layer.List))) (lt-leb b 63 above) ∙ ap (λ n. Some (refusal 6 n layer.List)) same
bays_fail (b ∷ bays) place (suc k) l above h =
    let same : (place + 1) + k ≡ place + suc k = omega arith in
    ap (λ x. cond x (first_failed (bay_checks (place + 1) bays)) (Some (refusal 6 place layer.List))) (le-leb b 63 (h 0 (omega arith)))
    ∙ bays_fail bays (place + 1) k (omega arith) above (λ j m. h (suc j) (omega arith)) ∙ ap (λ n. Some (refusal 6 n layer.List)) same

module _ {V : Type 0} (rule : SurveyRuleOf V) (first entries : ℕ) (es : List (Event V)) where
  -- what is due under a rule is due where every answer is allowed
  refused_any : (call : Call V) (x : Refusal) → Due rule first entries es (Refused call x) → Due any_answer first entries es (Refused call x)
  refused_any (Begin _ _ _) x d = d
  refused_any (End _ _ _ _) x d = d
  refused_any (Lose _ _ _) x d = d
  refused_any Close x d = d
  refused_any Reopen x d = d
  refused_any (Survey _ _) x (inl d) = inl d
  refused_any (Survey _ _) x (inr d) = inr (d.0, tt)

  due_any : (e : Event V) → Due rule first entries es e → Due any_answer first entries es e
  due_any (Begun _ _ _ _) d = d
  due_any (Ended _ _ _ _) d = d
  due_any (Lost _ _ _) d = d
  due_any Closed d = d
  due_any Reopened d = d
  due_any (Surveyed _ _ _) d = (d.0, tt)
  due_any (Refused call x) d = refused_any call x d

  -- and for a call of the log itself the other way round
  refused_by : (call : Call V) (x : Refusal) → is_survey call ≡ false → Due any_answer first entries es (Refused call x) → Due rule first entries es (Refused call x)
  refused_by (Begin _ _ _) x own d = d
  refused_by (End _ _ _ _) x own d = d
  refused_by (Lose _ _ _) x own d = d
  refused_by Close x own d = d
  refused_by Reopen x own d = d
  refused_by (Survey _ _) x own d = absurd (true≢false own)

  due_by : (e : Event V) → is_survey (call_of e) ≡ false → Due any_answer first entries es e → Due rule first entries es e
  due_by (Begun _ _ _ _) own d = d
  due_by (Ended _ _ _ _) own d = d
  due_by (Lost _ _ _) own d = d
  due_by Closed own d = d
  due_by Reopened own d = d
  due_by (Surveyed _ _ _) own d = absurd (true≢false own)
  due_by (Refused call x) own d = refused_by call x own d

life_any : {V : Type 0} (rule : SurveyRuleOf V) (first entries : ℕ) (es : List (Event V)) → Life rule first entries es → Life any_answer first entries es
life_any rule first entries [] l = l
life_any rule first entries (e ∷ es) l = (life_any rule first entries es l.0, l.1, due_any rule first entries es e l.2)

module _ {V : Type 0} (rule : SurveyRuleOf V) where
  calls_carried : (while : Bool) (s t : State V) (e : Event V) → is_survey (call_of e) ≡ false → Carries while s e t → CarriesBy rule while s e t
  calls_carried while s t e own carries first entries es led at =
      let all : Leads any_answer first entries es s = record { life = life_any rule first entries es led.life; storage = led.storage; next = led.next; waits = led.waits; cabinets = led.cabinets; ended = led.ended } in
      let on = carries first entries es all at in
      record { life = (led.life, on.life.1, due_by rule first entries es e own on.life.2); storage = on.storage; next = on.next; waits = on.waits; cabinets = on.cabinets; ended = on.ended }

  no_bays_carried : (s : State V) (bays : Option (List ℕ)) (limit : ℕ) (e : NoBay) → NoBayIn (listed bays) e → CarriesBy rule false s (Refused (Survey bays limit) (no_bay e)) s
  no_bays_carried s bays limit e h first entries es led shut =
      let same : 0 + h.place ≡ h.place = omega arith in
      same_leads rule first entries es s led (Refused (Survey bays limit) (no_bay e))
      (led.life, ap not shut, inl (bays_fail (listed bays) 0 h.place h.within h.above h.first ∙ ap (λ n. Some (refusal 6 n layer.List)) same ∙ ap Some (sym h.told))) refl refl refl refl

  surveys_carried : (s : State V) (bays : Option (List ℕ)) (limit : ℕ) (answer : Result Report Refusal) → BaysUpTo (listed bays) (length (listed bays)) → rule (unlisted (listed bays) s.ended) limit answer → CarriesBy rule false s (survey_event bays limit answer) s
  surveys_carried s bays limit (Ok report) h is first entries es led shut =
      same_leads rule first entries es s led (Surveyed bays limit report)
      (led.life, ap not shut, (bays_pass (listed bays) 0 h, subst (λ rows. rule (unlisted (listed bays) rows) limit (Ok report)) led.ended is)) refl refl refl refl
  surveys_carried s bays limit (Err x) h is first entries es led shut =
      same_leads rule first entries es s led (Refused (Survey bays limit) x)
      (led.life, ap not shut, inr (bays_pass (listed bays) 0 h, subst (λ rows. rule (unlisted (listed bays) rows) limit (Err x)) led.ended is)) refl refl refl refl

  pub carried : Carried rule
  carried = record { calls = calls_carried; no_bays = no_bays_carried; surveys = surveys_carried }
