-- The words of a log's life. A life is the list of its calls with their answers, the newest first, and every word is said of that
-- list, of the tick that open named and of the entries of the storage, and of nothing else. Assumes nothing.
use Rattle.std.specs.Prelude.{ℕ, ◌+◌, Bool, true, false, not, ◌&&◌, ◌||◌, List, [], ◌∷◌, ◌++◌, map, length, filter, ◌==◌, nat_lt}
use Rattle.operations.specs.declared.row.Row.{Row}
use Rattle.operations.specs.declared.row.Sort.{Sort}
use Rattle.operations.specs.declared.row.Sort.TheVariants.{Read, Write}
use Rattle.lives.specs.Calls.{Event, Begun, Ended, Lost, Closed, Reopened, Surveyed, Refused}

-- what an accepted begin began
pub record Start : Type 0 where
  pub sort : Sort
  pub cabinet : ℕ
  pub bay : ℕ
  pub tick : ℕ

abbrev pub start : Sort → ℕ → ℕ → ℕ → Start
start sort cabinet bay tick = record { sort = sort; cabinet = cabinet; bay = bay; tick = tick }

-- whether it is of this cabinet; whether it has this cabinet and tick; whether it has a ticket's sort, cabinet and tick
abbrev pub on : ℕ → Start → Bool
on cabinet b = cabinet == b.cabinet

abbrev pub of : ℕ → ℕ → Start → Bool
of cabinet begun b = cabinet == b.cabinet && begun == b.tick

abbrev pub same_sort : Sort → Sort → Bool
same_sort Read Read = true
same_sort Read Write = false
same_sort Write Read = false
same_sort Write Write = true

abbrev pub has_ticket : Sort → ℕ → ℕ → Start → Bool
has_ticket sort cabinet begun b = of cabinet begun b && same_sort sort b.sort

-- the accepted begins
abbrev pub begun : {V : Type 0} → List (Event V) → List Start
begun [] = []
begun (Begun sort cabinet bay tick ∷ es) = start sort cabinet bay tick ∷ begun es
begun (Ended _ _ _ _ ∷ es) = begun es
begun (Lost _ _ _ ∷ es) = begun es
begun (Closed ∷ es) = begun es
begun (Reopened ∷ es) = begun es
begun (Surveyed _ _ _ ∷ es) = begun es
begun (Refused _ _ ∷ es) = begun es

-- how many begins, ends and losses were accepted
abbrev pub begins : {V : Type 0} → List (Event V) → ℕ
begins es = length (begun es)

abbrev pub ends : {V : Type 0} → List (Event V) → ℕ
ends [] = 0
ends (Begun _ _ _ _ ∷ es) = ends es
ends (Ended _ _ _ _ ∷ es) = 1 + ends es
ends (Lost _ _ _ ∷ es) = ends es
ends (Closed ∷ es) = ends es
ends (Reopened ∷ es) = ends es
ends (Surveyed _ _ _ ∷ es) = ends es
ends (Refused _ _ ∷ es) = ends es

abbrev pub losses : {V : Type 0} → List (Event V) → ℕ
losses [] = 0
losses (Begun _ _ _ _ ∷ es) = losses es
losses (Ended _ _ _ _ ∷ es) = losses es
losses (Lost _ _ _ ∷ es) = 1 + losses es
losses (Closed ∷ es) = losses es
losses (Reopened ∷ es) = losses es
losses (Surveyed _ _ _ ∷ es) = losses es
losses (Refused _ _ ∷ es) = losses es

-- whether an end or a loss of this cabinet and tick was accepted
abbrev pub settled : {V : Type 0} → List (Event V) → ℕ → ℕ → Bool
settled [] c t = false
settled (Begun _ _ _ _ ∷ es) c t = settled es c t
settled (Ended _ cabinet begun _ ∷ es) c t = (cabinet == c && begun == t) || settled es c t
settled (Lost _ cabinet begun ∷ es) c t = (cabinet == c && begun == t) || settled es c t
settled (Closed ∷ es) c t = settled es c t
settled (Reopened ∷ es) c t = settled es c t
settled (Surveyed _ _ _ ∷ es) c t = settled es c t
settled (Refused _ _ ∷ es) c t = settled es c t

-- the accepted begins that wait: neither an end nor a loss of their cabinet and tick was accepted
abbrev pub waiting : {V : Type 0} → List (Event V) → List Start
waiting es = filter (λ b. not (settled es b.cabinet b.tick)) (begun es)

-- whether some of the list pass the test
abbrev pub some : {A : Type 0} → (A → Bool) → List A → Bool
some p xs = nat_lt 0 (length (filter p xs))

-- the next tick: an accepted begin or end takes one
abbrev pub next_tick : {V : Type 0} → ℕ → List (Event V) → ℕ
next_tick first es = first + begins es + ends es

-- whether the log is recording; else it is closed
abbrev pub recording : {V : Type 0} → List (Event V) → Bool
recording [] = true
recording (Begun _ _ _ _ ∷ es) = recording es
recording (Ended _ _ _ _ ∷ es) = recording es
recording (Lost _ _ _ ∷ es) = recording es
recording (Closed ∷ es) = false
recording (Reopened ∷ es) = true
recording (Surveyed _ _ _ ∷ es) = recording es
recording (Refused _ _ ∷ es) = recording es

-- the operation that an end of this value and tick makes of a begin: cabinet, bay and sort as the begin had them, the end's
-- value, from the begin's tick to the end's own
abbrev pub operation : {V : Type 0} → V → ℕ → Start → Row V
operation value finish b = record { sort = b.sort; bay = b.bay; cabinet = b.cabinet; value = value; start = b.tick; finish = finish }

-- what the accepted ends stand for, in their order: an end belongs to the accepted begin of its cabinet and tick
abbrev pub shown : {V : Type 0} → ℕ → List (Event V) → List (Row V)
shown first [] = []
shown first (Begun _ _ _ _ ∷ es) = shown first es
shown first (Ended _ cabinet tick value ∷ es) = shown first es ++ map (operation value (next_tick first es)) (filter (of cabinet tick) (begun es))
shown first (Lost _ _ _ ∷ es) = shown first es
shown first (Closed ∷ es) = shown first es
shown first (Reopened ∷ es) = shown first es
shown first (Surveyed _ _ _ ∷ es) = shown first es
shown first (Refused _ _ ∷ es) = shown first es
