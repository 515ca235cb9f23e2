-- The calls of a log's life, and calls with their answers. Assumes nothing.
use Rattle.std.specs.Prelude.{ℕ, Bool, true, false, List, Ok, Err, Option, Result}
use Rattle.operations.specs.declared.refusal.Refusal.{Refusal}
use Rattle.operations.specs.declared.row.Sort.{Sort}

-- A call. A ticket is its sort, its cabinet and its begin tick, whichever log made it.
pub data Call (V : Type 0) : Type 0 where
  -- sort, cabinet, bay
  Begin : Sort → ℕ → ℕ → Call V
  -- the ticket, and the value read or written
  End : Sort → ℕ → ℕ → V → Call V
  -- the ticket
  Lose : Sort → ℕ → ℕ → Call V
  Close : Call V
  Reopen : Call V
  -- the bays to leave out, where there is a list, and the limit
  Survey : Option (List ℕ) → ℕ → Call V

-- what an accepted survey reports: the bays' largest age, the sum of trials and the number of operations
pub record Report : Type 0 where
  pub age : ℕ
  pub trials : ℕ
  pub count : ℕ

-- A call with its answer: one that was accepted, or a refused one. A begin was told a tick, and a survey a report.
pub data Event (V : Type 0) : Type 0 where
  Begun : Sort → ℕ → ℕ → ℕ → Event V
  Ended : Sort → ℕ → ℕ → V → Event V
  Lost : Sort → ℕ → ℕ → Event V
  Closed : Event V
  Reopened : Event V
  Surveyed : Option (List ℕ) → ℕ → Report → Event V
  Refused : Call V → Refusal → Event V

-- the call of an event
abbrev pub call_of : {V : Type 0} → Event V → Call V
call_of (Begun sort cabinet bay _) = Begin sort cabinet bay
call_of (Ended sort cabinet begun value) = End sort cabinet begun value
call_of (Lost sort cabinet begun) = Lose sort cabinet begun
call_of Closed = Close
call_of Reopened = Reopen
call_of (Surveyed bays limit _) = Survey bays limit
call_of (Refused call _) = call

abbrev pub is_survey : {V : Type 0} → Call V → Bool
is_survey (Begin _ _ _) = false
is_survey (End _ _ _ _) = false
is_survey (Lose _ _ _) = false
is_survey Close = false
is_survey Reopen = false
is_survey (Survey _ _) = true

-- a survey's own answer as an event
abbrev pub survey_event : {V : Type 0} → Option (List ℕ) → ℕ → Result Report Refusal → Event V
survey_event bays limit (Ok report) = Surveyed bays limit report
survey_event bays limit (Err e) = Refused (Survey bays limit) e
