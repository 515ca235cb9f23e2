-- What the calls of a script and their answers say of a life. Assumes nothing.
use Rattle.std.specs.Prelude.{ℕ, List, Some, None, Ok, Err, vec_items, Option, Result}
use Rattle.std.specs.Global.{Vec}
use Rattle.operations.specs.declared.refusal.Refusal.{Refusal}
use Rattle.surveying.specs.declared.report.Report.{Report}
use Rattle.lives.specs.Calls as life
use Rattle.replaying.specs.declared.answer.Accepted.{Accepted}
use Rattle.replaying.specs.declared.answer.Accepted.TheVariants.{Begun, Ended, Lost, Closed, Reopened, Surveyed}
use Rattle.replaying.specs.declared.call.Call.{Call}
use Rattle.replaying.specs.declared.call.Call.TheVariants.{Begin, End, Lose, Close, Reopen, Survey}

-- the list of bays of a survey, where there is one
abbrev pub bays_of : Option (Vec ℕ) → Option (List ℕ)
bays_of None = None
bays_of (Some bays) = Some (vec_items bays)

-- the call that a script names
abbrev pub meant : {V : Type 0} → Call V → life.Call V
meant (Begin sort cabinet bay) = life.Begin sort cabinet bay
meant (End ticket value) = life.End ticket.sort ticket.cabinet ticket.begun value
meant (Lose ticket) = life.Lose ticket.sort ticket.cabinet ticket.begun
meant Close = life.Close
meant Reopen = life.Reopen
meant (Survey bays limit) = life.Survey (bays_of bays) limit

-- a report as a survey's rule has it
abbrev pub reported : Report → life.Report
reported r = record { age = r.age; trials = r.trials; count = r.kept }

-- an answer as a survey's rule has it
abbrev pub answered : Result Report Refusal → Result life.Report Refusal
answered (Ok report) = Ok (reported report)
answered (Err e) = Err e

-- the answer to a call: it was accepted, or refused
abbrev pub Answer : Type 0
Answer = Result Accepted Refusal

-- the answer that an event tells
abbrev pub answer_of : {V : Type 0} → life.Event V → Answer
answer_of (life.Begun _ _ _ tick) = Ok (Begun tick)
answer_of (life.Ended _ _ _ _) = Ok Ended
answer_of (life.Lost _ _ _) = Ok Lost
answer_of life.Closed = Ok Closed
answer_of life.Reopened = Ok Reopened
answer_of (life.Surveyed _ _ report) = Ok (Surveyed (record { age = report.age; trials = report.trials; kept = report.count }))
answer_of (life.Refused _ e) = Err e
