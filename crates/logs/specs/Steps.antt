-- What each call answers, and what it leaves in the storage. Assumes nothing.
use Rattle.std.specs.Prelude.{◌≡◌, ℕ, ◌+◌, ◌-◌, [], ◌∷◌, ◌++◌, length, Some, None, Ok, Err, Option, Result, slice_index_or, slice_set}
use Rattle.operations.specs.Checks.{first_failed}
use Rattle.operations.specs.declared.row.Row.{Row}
use Rattle.operations.specs.declared.row.Sort.{Sort}
use Rattle.lives.specs.Rules.{tally, open_checks, begin_checks, ticket_checks, close_checks}
use Rattle.lives.specs.declared.refusal.LogRefusal.{LogRefusal}
use Rattle.logs.specs.declared.cabinet.Cabinet.{Cabinet}
use Rattle.logs.specs.declared.cabinet.Cabinet.TheVariants.{Idle}
use Rattle.logs.specs.declared.log.Closed.{Closed}
use Rattle.logs.specs.declared.log.Recording.{Recording}
use Rattle.logs.specs.declared.handed_back.HandedBack.{HandedBack}
use Rattle.logs.specs.declared.ticket.Ticket.{Ticket}
use Rattle.logs.specs.Cabinets.{is_idle, occupied, holds, bay_of}
use Rattle.logs.specs.States.{State, opened_at}

-- the ticket of this cabinet and begin tick, of either sort
abbrev pub ticket : {A : Type 0} → ℕ → ℕ → Ticket A
ticket cabinet begun = record { cabinet = cabinet; begun = begun; act = record {} }

abbrev pub cabinet_at : {V : Type 0} → State V → ℕ → Cabinet
cabinet_at s cabinet = slice_index_or s.cabinets cabinet Idle

-- the refusal of each call, if there is one
abbrev pub open_refusal : ℕ → Option LogRefusal
open_refusal first = first_failed (open_checks first)

abbrev pub begin_refusal : {V : Type 0} → State V → ℕ → ℕ → Option LogRefusal
begin_refusal s cabinet bay = first_failed (begin_checks (tally (length s.ended) s.waiting s.next s.entries) cabinet bay (is_idle (cabinet_at s cabinet)))

abbrev pub ticket_refusal : {V : Type 0} → State V → Sort → ℕ → ℕ → Option LogRefusal
ticket_refusal s sort cabinet begun = first_failed (ticket_checks begun (holds sort begun (cabinet_at s cabinet)))

abbrev pub close_refusal : {V : Type 0} → State V → Option LogRefusal
close_refusal s = first_failed (close_checks s.waiting)

-- after an accepted begin: the cabinet holds the operation, and a tick is taken
abbrev pub begun : {V : Type 0} → State V → Sort → ℕ → ℕ → State V
begun s sort cabinet bay = record {
  cabinets = slice_set s.cabinets cabinet (occupied sort bay s.next);
  next = s.next + 1;
  waiting = s.waiting + 1;
  entries = s.entries;
  ended = s.ended;
}

abbrev pub row : {V : Type 0} → Sort → ℕ → ℕ → V → ℕ → ℕ → Row V
row sort bay cabinet value start finish = record { sort = sort; bay = bay; cabinet = cabinet; value = value; start = start; finish = finish }

-- after an accepted end: the cabinet is idle, the operation ended, and a tick is taken
abbrev pub ended : {V : Type 0} → State V → Sort → ℕ → ℕ → V → State V
ended s sort cabinet begun value = record {
  cabinets = slice_set s.cabinets cabinet Idle;
  next = s.next + 1;
  waiting = s.waiting - 1;
  entries = s.entries;
  ended = s.ended ++ (row sort (bay_of (cabinet_at s cabinet)) cabinet value begun s.next ∷ []);
}

-- after an accepted loss: the cabinet is idle
abbrev pub lost : {V : Type 0} → State V → ℕ → State V
lost s cabinet = record {
  cabinets = slice_set s.cabinets cabinet Idle;
  next = s.next;
  waiting = s.waiting - 1;
  entries = s.entries;
  ended = s.ended;
}

-- an open hands out a recording log
abbrev pub Opens : {V : Type 0} → State V → State V → ℕ → Result Recording LogRefusal → Type 0
Opens s t first (Ok log) = (open_refusal first ≡ None) × (log.opened ≡ first) × (t ≡ opened_at first s.entries)
Opens s t first (Err e) = (open_refusal first ≡ Some e) × (t ≡ s)

-- a begin hands out what is made of its tick
abbrev pub Begins : {V T : Type 0} → (ℕ → T) → State V → State V → Sort → ℕ → ℕ → Result T LogRefusal → Type 0
Begins ticket s t sort cabinet bay (Ok x) = (begin_refusal s cabinet bay ≡ None) × (x ≡ ticket s.next) × (t ≡ begun s sort cabinet bay)
Begins ticket s t sort cabinet bay (Err e) = (begin_refusal s cabinet bay ≡ Some e) × (t ≡ s)

-- an end of a ticket
abbrev pub Ends : {V E : Type 0} → (E → LogRefusal) → State V → State V → Sort → ℕ → ℕ → V → Result (Unit {0}) E → Type 0
Ends why s t sort cabinet begun value (Ok _) = (ticket_refusal s sort cabinet begun ≡ None) × (t ≡ ended s sort cabinet begun value)
Ends why s t sort cabinet begun value (Err e) = (ticket_refusal s sort cabinet begun ≡ Some (why e)) × (t ≡ s)

-- a loss of a ticket
abbrev pub Loses : {V T : Type 0} → State V → State V → Sort → ℕ → ℕ → Result T LogRefusal → Type 0
Loses s t sort cabinet begun (Ok _) = (ticket_refusal s sort cabinet begun ≡ None) × (t ≡ lost s cabinet)
Loses s t sort cabinet begun (Err e) = (ticket_refusal s sort cabinet begun ≡ Some e) × (t ≡ s)

-- a close hands out a closed log, or the recording one that it was handed
abbrev pub Closes : {V : Type 0} → State V → Recording → Result Closed (HandedBack Recording) → Type 0
Closes s log (Ok closed) = (close_refusal s ≡ None) × (closed.opened ≡ log.opened)
Closes s log (Err e) = (close_refusal s ≡ Some e.refusal) × (e.value ≡ log)
