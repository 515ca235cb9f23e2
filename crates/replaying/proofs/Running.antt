-- A script run call by call. Assumes nothing.
use Rattle.std.proofs.Common.{◌≡◌, ℕ, ◌+◌, ◌<◌, ◌≤◌, Bool, true, List, [], ◌∷◌, ◌++◌, map, reverse, length, get_or, take, None, sym, refl, ap, ◌∙◌, subst, arith, length-append}
use mathlib.Core.List.{reverse-cons}
use Rattle.std.proofs.lemmas.List.{take_more, map-append, get_or_default}
use Rattle.lives.specs.Calls.{call_of}
use Rattle.lives.specs.Life.{SurveyRuleOf, any_answer}
use Rattle.lives.proofs.Law.{lives_lawful}
use Rattle.logs.specs.Stands.{Leads}
use Rattle.logs.specs.States.{State, opened_at}
use Rattle.replaying.specs.Runs.{possible, Goes, Steps, Reached, Ran, Transcript}
use Rattle.replaying.specs.Scripts.{Answer, meant, answer_of}
use Rattle.replaying.specs.declared.call.Call.{Call}

-- a life that just started has no survey yet, so it is one under every rule
pub just_opened : {V : Type 0} (rule : SurveyRuleOf V) (first : ℕ) (s t : State V) → t ≡ opened_at first s.entries → Leads any_answer first t.entries [] t → Leads rule first s.entries [] t
just_opened rule first s t is led =
    record { life = led.life; storage = ap (λ x. x.entries) is; next = led.next; waits = led.waits; cabinets = led.cabinets; ended = led.ended }

module _ {V : Type 0} (rule : SurveyRuleOf V) (first entries : ℕ) (script : List (Call V)) where
  -- before the first call
  pub reached_none : (s : State V) (answers : List Answer) → answers ≡ [] → Leads rule first entries [] s → Reached rule first entries script answers s true
  reached_none s answers none led = subst (λ given. Reached rule first entries script given s true) (sym none) (record { events = []; calls = refl; told = refl; phase = refl; leads = led })

  -- one call more
  pub reached_more : (s t : State V) (before after : Bool) (call : Call V) (answer : Answer) (answers more : List Answer) → more ≡ answers ++ (answer ∷ []) → length answers < length script → call ≡ get_or script (length answers) call → Goes rule before after s t (meant call) answer → Reached rule first entries script answers s before → Reached rule first entries script more t after
  reached_more s t before after call answer answers more is within at goes so =
      let e = goes.event in
      let longer : length more ≡ length answers + 1 = ap length is ∙ length-append answers (answer ∷ []) in
      let turned : reverse (e ∷ so.events) ≡ reverse so.events ++ (e ∷ []) = reverse-cons e so.events in
      let named : map meant (take (length answers) script) ++ (meant call ∷ []) ≡ map meant (take (length more) script) =
      sym (map-append meant (take (length answers) script) (call ∷ []))
      ∙ (ap (λ x. map meant (take (length answers) script ++ (x ∷ []))) at
      ∙ (ap (map meant) (sym (take_more script (length answers) call within)) ∙ ap (λ n. map meant (take n script)) (sym longer))) in
      record {
        events = e ∷ so.events;
        calls = ap (map call_of) turned ∙ (map-append call_of (reverse so.events) (e ∷ []) ∙ ((λ i. so.calls i ++ (goes.of i ∷ [])) ∙ named));
        told = ap (map answer_of) turned ∙ (map-append answer_of (reverse so.events) (e ∷ []) ∙ ((λ i. so.told i ++ (goes.told i ∷ [])) ∙ sym is));
        phase = goes.phase so.events so.phase;
        leads = goes.carries first entries so.events so.leads so.phase;
      }

  -- the script is at its end
  pub ran_all : (s : State V) (phase : Bool) (answers : List Answer) → length script ≤ length answers → Reached rule first entries script answers s phase → Ran rule first entries script answers s phase
  ran_all s phase answers done so = record { reached = so; halts = λ d within. absurd (omega arith) }

  -- its next call is not possible
  pub ran_on : (s t : State V) (before after : Bool) (call : Call V) (answers : List Answer) → length answers < length script → call ≡ get_or script (length answers) call → Steps rule before after s t call None → Reached rule first entries script answers s before → Ran rule first entries script answers t after
  ran_on s t before after call answers within at stays so = record {
    reached = record { events = so.events; calls = so.calls; told = so.told; phase = so.phase ∙ sym stays.2; leads = subst (λ x. Leads rule first entries so.events x) (sym stays.1) so.leads };
    halts = λ d _. (λ i. possible (stays.2 i) (get_or_default script (length answers) d call within i)) ∙ (ap (possible before) (sym at) ∙ stays.0);
  }

  pub transcript : (s : State V) (phase : Bool) (answers : List Answer) → Ran rule first entries script answers s phase → Transcript rule first entries script answers s
  transcript s phase answers ran =
      let so = ran.reached in
      let life = so.leads.life in
      record {
        events = so.events;
        calls = so.calls;
        halts = λ d within. ap (λ p. possible p (get_or script (length answers) d)) so.phase ∙ ran.halts d within;
        told = so.told;
        life = life;
        law = λ later sooner is. lives_lawful rule first entries so.events life later sooner is;
        surveys = λ later sooner bays limit report is. (lives_lawful rule first entries so.events life [] so.events refl).surveyed later sooner bays limit report is;
        leads = so.leads;
      }
