-- Worked cases of one bay. Assumes nothing.
use Rattle.std.specs.Prelude.{◌≡◌, ℕ, true, false, cond, ◌⊎◌, List, [], ◌∷◌, length, ◌≢◌}
use Rattle.orders.specs.Places.{some}
use Rattle.orders.specs.RunUps.{Tried}
use Rattle.orders.specs.Orders.{Operation, at, before, write_of, writes, of_bay, among, LeastAge, bay_graph}
use Rattle.orders.specs.Claims.{a_read}

-- a bay is judged to an age, with its trials and the order found; or a read, at this place, is before its write
pub data Outcome : Type 0 where
  judged : (age trials : ℕ) (order : List ℕ) → Outcome
  foreseen : (place : ℕ) → Outcome

-- operations of bay 3, and what comes of them
pub record Case : Type 0 where
  pub operations : List Operation
  pub outcome : Outcome

-- a write of a value from a start tick to a finish tick
abbrev wrote : (value start finish : ℕ) → Operation
wrote v s f = record { write = true; bay = 3; value = (0, v); start = s; finish = f }

-- and a read
abbrev read : (value start finish : ℕ) → Operation
read v s f = record { write = false; bay = 3; value = (0, v); start = s; finish = f }

-- the table
abbrev pub cases : List Case
cases =
    record { operations = []; outcome = judged 0 0 [] } ∷
    record { operations = wrote 1 1 2 ∷ []; outcome = judged 0 1 (0 ∷ []) } ∷
    record { operations = wrote 1 1 2 ∷ read 1 3 4 ∷ []; outcome = judged 1 1 (0 ∷ []) } ∷
    record { operations = wrote 1 1 2 ∷ wrote 2 3 4 ∷ read 1 5 6 ∷ []; outcome = judged 2 3 (0 ∷ 1 ∷ []) } ∷
    record { operations = wrote 1 1 2 ∷ wrote 2 3 4 ∷ wrote 3 5 6 ∷ read 1 7 8 ∷ []; outcome = judged 3 6 (0 ∷ 1 ∷ 2 ∷ []) } ∷
    record { operations = wrote 1 1 4 ∷ wrote 2 2 5 ∷ read 1 6 7 ∷ []; outcome = judged 1 3 (1 ∷ 0 ∷ []) } ∷
    record { operations = wrote 1 1 4 ∷ wrote 2 2 5 ∷ read 1 6 7 ∷ read 2 8 9 ∷ []; outcome = judged 2 4 (0 ∷ 1 ∷ []) } ∷
    record { operations = wrote 1 1 9 ∷ read 1 2 3 ∷ wrote 2 4 5 ∷ read 1 6 7 ∷ []; outcome = judged 2 3 (0 ∷ 2 ∷ []) } ∷
    record { operations = wrote 1 1 2 ∷ wrote 2 2 3 ∷ read 1 4 5 ∷ []; outcome = judged 1 3 (1 ∷ 0 ∷ []) } ∷
    record { operations = wrote 1 1 2 ∷ wrote 2 3 3 ∷ read 1 4 5 ∷ []; outcome = judged 2 3 (0 ∷ 1 ∷ []) } ∷
    record { operations = read 1 1 3 ∷ wrote 1 3 4 ∷ []; outcome = judged 1 1 (1 ∷ []) } ∷
    record { operations = read 1 1 2 ∷ wrote 1 3 4 ∷ []; outcome = foreseen 0 } ∷ []

-- the bay's age, 0 without a read, is that of trying, and the trials and the order are; a bay without a write has none
abbrev pub Gives : List Operation → ℕ → ℕ → ℕ → List ℕ → Type 0
Gives ops b age trials order = (((p : ℕ) → writes ops b p ≢ true) × (age ≡ 0) × (trials ≡ 0) × (order ≡ [])) ⊎ ((k : ℕ) × Tried (bay_graph ops b) k trials order × (age ≡ cond (some (length ops) (a_read ops b)) k 0))

-- the outcome of bay 3
abbrev pub Holds : List Operation → Outcome → Type 0
Holds ops (judged age trials order) = Gives ops 3 age trials order × LeastAge ops (of_bay 3) age
Holds ops (foreseen r) = (among ops (of_bay 3) r ≡ true) × ((at ops r).write ≡ false) × (before (at ops r) (at ops (write_of ops (at ops r))) ≡ true)

-- each outcome is as said
abbrev pub AllHold : List Case → Type 0
AllHold [] = Unit {0}
AllHold (c ∷ cs) = Holds c.operations c.outcome × AllHold cs

-- each case is as the definitions say
abbrev pub CasesHold : Type 0
CasesHold = AllHold cases
