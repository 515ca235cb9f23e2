-- What running a script comes to. Assumes nothing.
use Rattle.std.specs.Prelude.{◌≡◌, ℕ, ◌<◌, ◌≤◌, Bool, true, false, ◌&&◌, List, ◌∷◌, ◌++◌, map, reverse, length, take, Some, None, Ok, Err, Option, Result, slice_index_or}
use Rattle.lives.specs.Calls.{Call as LifeCall, Report, Event, Surveyed, call_of}
use Rattle.lives.specs.Life.{SurveyRuleOf, Life, Law, Answers, allowed}
use Rattle.lives.specs.Words.{recording}
use Rattle.logs.specs.Stands.{Leads, CarriesBy}
use Rattle.logs.specs.States.{State}
use Rattle.logs.specs.Steps.{open_refusal}
use Rattle.replaying.specs.Scripts.{Answer, meant, answer_of}
use Rattle.replaying.specs.Tickets.{issued}
use Rattle.replaying.specs.declared.call.Call.{Call}
use Rattle.replaying.specs.declared.call.Call.TheVariants.{Begin, End, Lose, Close, Reopen, Survey}
use Rattle.replaying.specs.declared.log.Log.{Log}
use Rattle.replaying.specs.declared.log.Log.TheVariants as log
use Rattle.replaying.specs.declared.stop.Stop.{Stop}
use Rattle.replaying.specs.declared.stop.Stop.TheVariants.{TooLong, Refused}

-- whether a log is recording; else it is closed
abbrev pub records : Log → Bool
records (log.Recording _) = true
records (log.Closed _) = false

-- some log can hand out the call's ticket
abbrev pub ticketed : {V : Type 0} → Call V → Bool
ticketed (Begin _ _ _) = true
ticketed (End ticket _) = issued ticket
ticketed (Lose ticket) = issued ticket
ticketed Close = true
ticketed Reopen = true
ticketed (Survey _ _) = true

-- the call can be made on a log that is recording, or closed: the log has it, and its ticket can be there
abbrev pub possible : {V : Type 0} → Bool → Call V → Bool
possible recording call = allowed recording (meant call) && ticketed call

-- A call was given this answer: with it, it goes on every life that led to the storage s, and leads to t. The log was recording
-- or closed before it, and is after it.
pub record Goes {V : Type 0} (rule : SurveyRuleOf V) (before after : Bool) (s t : State V) (call : LifeCall V) (answer : Answer) : Type 0 where
  pub event : Event V
  pub of : call_of event ≡ call
  pub told : answer_of event ≡ answer
  pub phase : (es : List (Event V)) → recording es ≡ before → recording (event ∷ es) ≡ after
  pub carries : CarriesBy rule before s event t

-- a call of a script: it was answered, or it is not possible and nothing changed
abbrev pub Steps : {V : Type 0} → SurveyRuleOf V → Bool → Bool → State V → State V → Call V → Option Answer → Type 0
Steps rule before after s t call (Some answer) = Goes rule before after s t (meant call) answer
Steps rule before after s t call None = (possible before call ≡ false) × (t ≡ s) × (after ≡ before)

-- as many calls of a script as there are answers: with these they are a life that led to the storage; the log is recording, or
-- closed
pub record Reached {V : Type 0} (rule : SurveyRuleOf V) (first entries : ℕ) (script : List (Call V)) (answers : List Answer) (s : State V) (now_recording : Bool) : Type 0 where
  -- the calls with their answers, the newest first
  pub events : List (Event V)
  pub calls : map call_of (reverse events) ≡ map meant (take (length answers) script)
  pub told : map answer_of (reverse events) ≡ answers
  pub phase : recording events ≡ now_recording
  pub leads : Leads rule first entries events s

-- a script was run to its end, or to the first call that is not possible
pub record Ran {V : Type 0} (rule : SurveyRuleOf V) (first entries : ℕ) (script : List (Call V)) (answers : List Answer) (s : State V) (now_recording : Bool) : Type 0 where
  pub reached : Reached rule first entries script answers s now_recording
  pub halts : (d : Call V) → length answers < length script → possible now_recording (slice_index_or script (length answers) d) ≡ false

-- What a script led to: these answers, and this storage.
pub record Transcript {V : Type 0} (rule : SurveyRuleOf V) (first entries : ℕ) (script : List (Call V)) (answers : List Answer) (s : State V) : Type 0 where
  -- the calls with their answers, the newest first
  pub events : List (Event V)
  -- they are the script's calls in their order, up to its end or to the first that is not possible where it stands
  pub calls : map call_of (reverse events) ≡ map meant (take (length answers) script)
  pub halts : (d : Call V) → length answers < length script → possible (recording events) (slice_index_or script (length answers) d) ≡ false
  -- with these answers
  pub told : map answer_of (reverse events) ≡ answers
  -- they are a life
  pub life : Life rule first entries events
  -- the law of lives holds at every point of it
  pub law : (later sooner : List (Event V)) → events ≡ later ++ sooner → Law rule first entries sooner
  -- every survey that reports does so by its rule, on what the accepted ends before it stand for, less the listed bays
  pub surveys : (later sooner : List (Event V)) (bays : Option (List ℕ)) (limit : ℕ) (report : Report) → events ≡ later ++ (Surveyed bays limit report ∷ sooner) → Answers rule first entries sooner bays limit (Ok report)
  -- the storage is where this life led
  pub leads : Leads rule first entries events s

-- what a replay answers, on a desk with this many places: the transcript, or why there is none
abbrev pub Replays : {V : Type 0} → SurveyRuleOf V → ℕ → List (Call V) → ℕ → State V → State V → List Answer → Result (Unit {0}) Stop → Type 0
Replays rule first script places s t answers (Ok _) = (length script ≤ places) × Transcript rule first s.entries script answers t
Replays rule first script places s t answers (Err (TooLong n)) = (places < length script) × (n ≡ places)
Replays rule first script places s t answers (Err (Refused e)) = (length script ≤ places) × (open_refusal first ≡ Some e)
