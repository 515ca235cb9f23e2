-- The storage of a log, and the lives that led to it. Assumes nothing.
use Rattle.std.specs.Prelude.{◌≡◌, ℕ, Bool, List, [], ◌∷◌, length, Ok, Err, filter, Result}
use Rattle.operations.specs.declared.row.Row.{Row}
use Rattle.operations.specs.declared.row.Sort.{Sort}
use Rattle.operations.specs.declared.row.Sort.TheVariants.{Read, Write}
use Rattle.lives.specs.Calls.{Event, Begun, Ended, Lost, Closed, Refused, Begin, End, Lose, Close}
use Rattle.lives.specs.Life.{SurveyRuleOf, any_answer, Life}
use Rattle.lives.specs.Refusals.{log_refusal}
use Rattle.lives.specs.Words.{Start, start, on, waiting, next_tick, recording, shown}
use Rattle.lives.specs.declared.refusal.LogRefusal.{LogRefusal}
use Rattle.logs.specs.declared.cabinet.Cabinet.{Cabinet}
use Rattle.logs.specs.declared.cabinet.Cabinet.TheVariants.{Idle, Reading, Writing}
use Rattle.logs.specs.declared.log.Closed.{Closed as ClosedLog}
use Rattle.logs.specs.declared.log.Recording.{Recording}
use Rattle.logs.specs.declared.handed_back.HandedBack.{HandedBack}
use Rattle.logs.specs.States.{State}
use Rattle.logs.specs.Steps.{cabinet_at}

-- what a cabinet holds, of the begins that wait
abbrev pub holding : ℕ → Cabinet → List Start
holding cabinet Idle = []
holding cabinet (Reading bay begun) = start Read cabinet bay begun ∷ []
holding cabinet (Writing bay begun) = start Write cabinet bay begun ∷ []

-- a life led to a storage: the storage holds what the words of the life say
pub record Leads {V : Type 0} (rule : SurveyRuleOf V) (first entries : ℕ) (es : List (Event V)) (s : State V) : Type 0 where
  pub life : Life rule first entries es
  pub storage : s.entries ≡ entries
  pub next : s.next ≡ next_tick first es
  pub waits : s.waiting ≡ length (waiting es)
  pub cabinets : (cabinet : ℕ) → filter (on cabinet) (waiting es) ≡ holding cabinet (cabinet_at s cabinet)
  pub ended : s.ended ≡ shown first es

-- A call carries on every life that led to its storage: the life with this call and its answer led to the storage afterwards. The
-- call is one that the log has while it is recording, or while it is closed.
abbrev pub CarriesBy : {V : Type 0} → SurveyRuleOf V → Bool → State V → Event V → State V → Type 0
CarriesBy {V} rule while s e t = (first entries : ℕ) (es : List (Event V)) → Leads rule first entries es s → recording es ≡ while → Leads rule first entries (e ∷ es) t

-- the lives are all there are, whatever surveys answered in them
abbrev pub Carries : {V : Type 0} → Bool → State V → Event V → State V → Type 0
Carries = CarriesBy any_answer

-- an accepted open starts a life
abbrev pub Starts : {V : Type 0} → ℕ → State V → Result Recording LogRefusal → Type 0
Starts first t (Ok _) = Leads any_answer first t.entries [] t
Starts first t (Err _) = Unit {0}

-- rows are what the accepted ends stand for, of every life that led to the storage
abbrev pub Shows : {V : Type 0} → State V → List (Row V) → Type 0
Shows {V} s rows = (first entries : ℕ) (es : List (Event V)) → Leads any_answer first entries es s → rows ≡ shown first es

-- each call with its answer
abbrev pub begin_event : {V T : Type 0} → (T → ℕ) → Sort → ℕ → ℕ → Result T LogRefusal → Event V
begin_event tick sort cabinet bay (Ok x) = Begun sort cabinet bay (tick x)
begin_event tick sort cabinet bay (Err e) = Refused (Begin sort cabinet bay) (log_refusal e)

abbrev pub end_event : {V E : Type 0} → (E → LogRefusal) → Sort → ℕ → ℕ → V → Result (Unit {0}) E → Event V
end_event why sort cabinet begun value (Ok _) = Ended sort cabinet begun value
end_event why sort cabinet begun value (Err e) = Refused (End sort cabinet begun value) (log_refusal (why e))

abbrev pub lose_event : {V : Type 0} → Sort → ℕ → ℕ → Result (Unit {0}) LogRefusal → Event V
lose_event sort cabinet begun (Ok _) = Lost sort cabinet begun
lose_event sort cabinet begun (Err e) = Refused (Lose sort cabinet begun) (log_refusal e)

abbrev pub close_event : {V : Type 0} → Result ClosedLog (HandedBack Recording) → Event V
close_event (Ok _) = Closed
close_event (Err e) = Refused Close (log_refusal e.refusal)
