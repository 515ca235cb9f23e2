-- What a life of a log is, and the law over all lives. Assumes nothing.
use Rattle.std.specs.Prelude.{◌≡◌, ℕ, ◌+◌, ◌<◌, ◌≤◌, Bool, true, false, not, ◌⊎◌, List, [], ◌∷◌, ◌++◌, map, length, Some, None, Ok, Err, filter, Option, Result, nat_le, slice_index_or}
use Rattle.operations.specs.Checks.{first_failed}
use Rattle.leaving.specs.Leaving.{unlisted}
use Rattle.operations.specs.Refusals.{refusal}
use Rattle.operations.specs.declared.refusal.Layer.TheVariants as layer
use Rattle.operations.specs.declared.refusal.Refusal.{Refusal}
use Rattle.operations.specs.declared.row.Row.{Row}
use Rattle.operations.specs.declared.row.Sort.{Sort}
use Rattle.lives.specs.declared.refusal.LogRefusal.{LogRefusal}
use Rattle.lives.specs.Refusals.{log_refusal}
use Rattle.lives.specs.Rules.{Tally, tally, open_checks, begin_checks, ticket_checks, close_checks}
use Rattle.lives.specs.Calls.{Call, Begin, End, Lose, Close, Reopen, Survey, Event, Begun, Ended, Lost, Closed, Reopened, Surveyed, Refused, Report, call_of}
use Rattle.lives.specs.Words.{start, on, of, has_ticket, begun, begins, ends, losses, settled, waiting, some, next_tick, recording, operation, shown}

-- What a survey says of operations under a limit: its answers. The words of a life are the same for every such rule.
abbrev pub SurveyRuleOf : Type 0 → Type 1
SurveyRuleOf V = List (Row V) → ℕ → Result Report Refusal → Type 0

-- the rule that allows every answer
abbrev pub any_answer : {V : Type 0} → SurveyRuleOf V
any_answer rows limit answer = Unit {0}

-- the entries of a list of bays that may be absent
abbrev pub listed : Option (List ℕ) → List ℕ
listed None = []
listed (Some bays) = bays

-- 6: an entry of the list is above 63; the place is the entry, counted on from this number
abbrev pub bay_checks : ℕ → List ℕ → List (Bool × Refusal)
bay_checks place [] = []
bay_checks place (bay ∷ bays) = (nat_le bay 63, refusal 6 place layer.List) ∷ bay_checks (place + 1) bays

-- the checks with their refusals as they are told
abbrev pub told : List (Bool × LogRefusal) → List (Bool × Refusal)
told checks = map (λ c. (c.0, log_refusal c.1)) checks

-- which calls a recording log has, and which a closed one
abbrev pub allowed : {V : Type 0} → Bool → Call V → Bool
allowed recording (Begin _ _ _) = recording
allowed recording (End _ _ _ _) = recording
allowed recording (Lose _ _ _) = recording
allowed recording Close = recording
allowed recording Reopen = not recording
allowed recording (Survey _ _) = not recording

-- the numbers of a log after these calls
abbrev pub numbers : {V : Type 0} → ℕ → ℕ → List (Event V) → Tally
numbers first entries es = tally (ends es) (length (waiting es)) (next_tick first es) entries

-- what is checked of a call after these calls
abbrev pub checks : {V : Type 0} → ℕ → ℕ → List (Event V) → Call V → List (Bool × Refusal)
checks first entries es (Begin sort cabinet bay) = told (begin_checks (numbers first entries es) cabinet bay (not (some (on cabinet) (waiting es))))
checks first entries es (End sort cabinet tick value) = told (ticket_checks tick (some (has_ticket sort cabinet tick) (waiting es)))
checks first entries es (Lose sort cabinet tick) = told (ticket_checks tick (some (has_ticket sort cabinet tick) (waiting es)))
checks first entries es Close = told (close_checks (length (waiting es)))
checks first entries es Reopen = []
checks first entries es (Survey bays limit) = bay_checks 0 (listed bays)

-- the refusal that is due to a call after these calls: that of the first check that fails
abbrev pub refused_with : {V : Type 0} → ℕ → ℕ → List (Event V) → Call V → Option Refusal
refused_with first entries es call = first_failed (checks first entries es call)

-- the begin that an end or a loss with this ticket belongs to: the one accepted begin of the ticket's cabinet and tick, which has
-- the ticket's sort
pub record Belongs {V : Type 0} (sooner : List (Event V)) (sort : Sort) (cabinet tick : ℕ) : Type 0 where
  pub bay : ℕ
  pub only : filter (of cabinet tick) (begun sooner) ≡ start sort cabinet bay tick ∷ []

-- an accepted end of these calls that has this place among their ends
pub record EndAt {V : Type 0} (es : List (Event V)) (place : ℕ) : Type 0 where
  pub later : List (Event V)
  pub sooner : List (Event V)
  pub sort : Sort
  pub cabinet : ℕ
  pub tick : ℕ
  pub value : V
  pub is : es ≡ later ++ (Ended sort cabinet tick value ∷ sooner)
  pub at : ends sooner ≡ place

module _ {V : Type 0} (rule : SurveyRuleOf V) (first entries : ℕ) where
  -- what a survey answers: what the rule says of the one list, the operations of the accepted ends in their order, less the
  -- listed bays
  abbrev pub Answers : List (Event V) → Option (List ℕ) → ℕ → Result Report Refusal → Type 0
  Answers es bays limit answer = rule (unlisted (listed bays) (shown first es)) limit answer

  -- A call is refused with the first check that fails, and accepted where none does. A survey whose checks pass can be refused by
  -- its own rule.
  abbrev pub Refuses : List (Event V) → Call V → Refusal → Type 0
  Refuses es (Begin sort cabinet bay) e = refused_with first entries es (Begin sort cabinet bay) ≡ Some e
  Refuses es (End sort cabinet tick value) e = refused_with first entries es (End sort cabinet tick value) ≡ Some e
  Refuses es (Lose sort cabinet tick) e = refused_with first entries es (Lose sort cabinet tick) ≡ Some e
  Refuses es Close e = refused_with first entries es Close ≡ Some e
  Refuses es Reopen e = refused_with first entries es Reopen ≡ Some e
  Refuses es (Survey bays limit) e = (refused_with first entries es (Survey bays limit) ≡ Some e) ⊎ ((refused_with first entries es (Survey bays limit) ≡ None) × Answers es bays limit (Err e))

  -- an event is the answer due to its call after these calls
  abbrev pub Due : List (Event V) → Event V → Type 0
  Due es (Begun sort cabinet bay tick) = (refused_with first entries es (Begin sort cabinet bay) ≡ None) × (tick ≡ next_tick first es)
  Due es (Ended sort cabinet tick value) = refused_with first entries es (End sort cabinet tick value) ≡ None
  Due es (Lost sort cabinet tick) = refused_with first entries es (Lose sort cabinet tick) ≡ None
  Due es Closed = refused_with first entries es Close ≡ None
  Due es Reopened = refused_with first entries es Reopen ≡ None
  Due es (Surveyed bays limit report) = (refused_with first entries es (Survey bays limit) ≡ None) × Answers es bays limit (Ok report)
  Due es (Refused call e) = Refuses es call e

  -- a life: its open was accepted, and every call of it is one that the log had then, with the answer that was due
  abbrev pub Life : List (Event V) → Type 0
  Life [] = first_failed (open_checks first) ≡ None
  Life (e ∷ es) = Life es × (allowed (recording es) (call_of e) ≡ true) × Due es e

  -- this many wait, as a close tells it: the place of its 22, or 0 where it is accepted or the log is closed
  abbrev pub ToldByClose : List (Event V) → ℕ → Type 0
  ToldByClose es count =
      ((recording es ≡ false) × (count ≡ 0)) ⊎ (((recording es ≡ true) × Due es Closed × (count ≡ 0)) ⊎
      ((recording es ≡ true) × Due es (Refused Close (refusal 22 count layer.Log))))

  -- what holds at a point of a life
  pub record Law (es : List (Event V)) : Type 0 where
    -- begins accepted are ends accepted, losses accepted and what waits, as a close tells it
    pub balance : (count : ℕ) → ToldByClose es count → begins es ≡ ends es + losses es + count
    pub told_some : ToldByClose es (length (waiting es))
    -- as many operations are shown as ends were accepted, and each is of one of them
    pub each : length (shown first es) ≡ ends es
    pub from_ends : (place : ℕ) → place < length (shown first es) → EndAt es place
    -- every accepted end stands for one operation, which has the end's place among the ends; it belongs to one begin
    pub stands_for : (later sooner : List (Event V)) (sort : Sort) (cabinet tick : ℕ) (value : V) → es ≡ later ++ (Ended sort cabinet tick value ∷ sooner) →
        (from : Belongs sooner sort cabinet tick) × ((d : Row V) → slice_index_or (shown first es) (ends sooner) d ≡ operation value (next_tick first sooner) (start sort cabinet from.bay tick))
    -- every accepted loss belongs to one begin
    pub lost_from : (later sooner : List (Event V)) (sort : Sort) (cabinet tick : ℕ) → es ≡ later ++ (Lost sort cabinet tick ∷ sooner) → Belongs sooner sort cabinet tick
    -- no end or loss is accepted of a cabinet and tick that has one already
    pub once : (later sooner : List (Event V)) (e : Event V) (cabinet tick : ℕ) → es ≡ later ++ (e ∷ sooner) → settled (e ∷ []) cabinet tick ≡ true → settled sooner cabinet tick ≡ false
    -- no two accepted begins have one cabinet and tick, and no two of one cabinet wait
    pub one_begin : (cabinet tick : ℕ) → length (filter (of cabinet tick) (begun es)) ≤ 1
    pub one_waits : (cabinet : ℕ) → length (filter (on cabinet) (waiting es)) ≤ 1
    -- every survey reports on what the accepted ends before it stand for, less the listed bays
    pub surveyed : (later sooner : List (Event V)) (bays : Option (List ℕ)) (limit : ℕ) (report : Report) → es ≡ later ++ (Surveyed bays limit report ∷ sooner) → Answers sooner bays limit (Ok report)
    -- every call was answered as was due
    pub due : (later sooner : List (Event V)) (e : Event V) → es ≡ later ++ (e ∷ sooner) → Due sooner e

-- the law of lives whose surveys answer by the rule: it holds at every point of every life
abbrev pub LivesLawful : {V : Type 0} → SurveyRuleOf V → Type 0
LivesLawful {V} rule = (first entries : ℕ) (es : List (Event V)) → Life rule first entries es → (later sooner : List (Event V)) → es ≡ later ++ sooner → Law rule first entries sooner
