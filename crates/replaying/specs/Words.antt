-- How the calls of a script and their answers are written. Assumes nothing.
use Rattle.std.specs.Prelude.{ℕ, List, [], ◌∷◌, ◌++◌, Some, None, Ok, Err, vec_items, codes, decimal, Option}
use Rattle.std.specs.Global.{Vec}
use Rattle.operations.specs.Words.{sort_words, refusal_words}
use Rattle.surveying.specs.Words.{report_words}
use Rattle.lives.specs.Refusals.{log_refusal}
use Rattle.logs.specs.Words.{ticket_words}
use Rattle.replaying.specs.Scripts.{Answer}
use Rattle.replaying.specs.declared.answer.Accepted.{Accepted}
use Rattle.replaying.specs.declared.answer.Accepted.TheVariants.{Begun, Ended, Lost, Closed, Reopened, Surveyed}
use Rattle.replaying.specs.declared.call.Call.{Call}
use Rattle.replaying.specs.declared.call.Call.TheVariants.{Begin, End, Lose, Close, Reopen, Survey}
use Rattle.replaying.specs.declared.stop.Stop.{Stop}
use Rattle.replaying.specs.declared.stop.Stop.TheVariants.{TooLong, Refused}

-- as ` 3 5`
abbrev pub numbers_words : List ℕ → List ℕ
numbers_words [] = []
numbers_words (n ∷ ns) = (codes " " ++ decimal n) ++ numbers_words ns

-- as ` without 3 5`; nothing where there is no list
abbrev pub without_words : Option (Vec ℕ) → List ℕ
without_words None = []
without_words (Some bays) = codes " without" ++ numbers_words (vec_items bays)

-- as `begin write cabinet 3 bay 7`, `end write cabinet 3 tick 5 serial 1` or `survey limit 1000000 without 3 5`
abbrev pub call_words : {V : Type 0} → (V → List ℕ) → Call V → List ℕ
call_words words (Begin sort cabinet bay) = codes "begin " ++ (sort_words sort ++ (codes " cabinet " ++ (decimal cabinet ++ (codes " bay " ++ decimal bay))))
call_words words (End ticket value) = codes "end " ++ (ticket_words ticket ++ (codes " " ++ words value))
call_words words (Lose ticket) = codes "lose " ++ ticket_words ticket
call_words words Close = codes "close"
call_words words Reopen = codes "reopen"
call_words words (Survey bays limit) = codes "survey limit " ++ (decimal limit ++ without_words bays)

-- as `begun at 5`, `ended` or `age 2 trials 3 kept 3`
abbrev pub accepted_words : Accepted → List ℕ
accepted_words (Begun tick) = codes "begun at " ++ decimal tick
accepted_words Ended = codes "ended"
accepted_words Lost = codes "lost"
accepted_words Closed = codes "closed"
accepted_words Reopened = codes "reopened"
accepted_words (Surveyed report) = report_words report

-- as an accepted call was told, or `refused 18 at 3 by log`
abbrev pub answer_words : Answer → List ℕ
answer_words (Ok accepted) = accepted_words accepted
answer_words (Err e) = refusal_words e

-- as `more than 3 calls`, or the refusal
abbrev pub stop_words : Stop → List ℕ
stop_words (TooLong places) = codes "more than " ++ (decimal places ++ codes " calls")
stop_words (Refused e) = refusal_words (log_refusal e)
