-- The theorems on orders and ages. Assumes nothing.
use Rattle.std.specs.Prelude.{◌≡◌, ℕ, ◌<◌, ◌≤◌, Bool, true, false, not, ◌&&◌, ◌↔◌, List, [], length}
use Rattle.orders.specs.Places.{tally, top}
use Rattle.orders.specs.RunUps.{Graph, RunUp, ValueOrder, In, Ascending, First, Trials, Tried}
use Rattle.orders.specs.Listing.{Below, run_ups, trials, first_order, tried_age, tried_trials, tried_order}
use Rattle.orders.specs.Orders.{Operation, at, writes, write_count, whole, of_bay, among, Timed, Lawful, largest_age, LeastAge, bay_graph, Distinct, Sourced, Unforeseen}

-- what is assumed of a judged bay: no operation starts after its finish, no value is written twice, every read has a write, and none is before it
pub record Judgeable (ops : List Operation) (held : Operation → Bool) : Type 0 where
  pub timed : Timed ops
  pub distinct : Distinct ops held
  pub sourced : Sourced ops held
  pub unforeseen : Unforeseen ops held

-- all operations of a bay are held, or none is
abbrev pub ByBay : (Operation → Bool) → Type 0
ByBay held = (a b : Operation) → a.bay ≡ b.bay → held a ≡ held b

-- place p holds a read of bay b
abbrev pub a_read : List Operation → ℕ → ℕ → Bool
a_read ops b p = among ops (of_bay b) p && not (at ops p).write

-- of a bay with a write, a value order for k exists exactly when some lawful order has no read older than k
abbrev pub ValueOrdersAreLawfulOrders : Type 0
ValueOrdersAreLawfulOrders = (ops : List Operation) (b k w : ℕ) → Judgeable ops (of_bay b) → writes ops b w ≡ true → 1 ≤ k → ((run : List ℕ) × ValueOrder (bay_graph ops b) k run) ↔ ((order : List ℕ) × Lawful ops (of_bay b) order × (largest_age ops (of_bay b) order ≤ k))

-- trying k = 1, 2, 3 and so on ends: there is a value order for the number of writes
abbrev pub TryingEnds : Type 0
TryingEnds = (ops : List Operation) (b w : ℕ) → Judgeable ops (of_bay b) → writes ops b w ≡ true → (run : List ℕ) × ValueOrder (bay_graph ops b) (write_count ops b) run

-- of a bay with a read, the k that trying finds is the least age
abbrev pub TriedIsLeastAge : Type 0
TriedIsLeastAge = (ops : List Operation) (b r k c : ℕ) (run : List ℕ) → Judgeable ops (of_bay b) → among ops (of_bay b) r ≡ true → (at ops r).write ≡ false → Tried (bay_graph ops b) k c run → LeastAge ops (of_bay b) k

-- of a bay without a read, the least age is 0
abbrev pub UnreadIsLeastAge : Type 0
UnreadIsLeastAge = (ops : List Operation) (b : ℕ) → Timed ops → ((p : ℕ) → among ops (of_bay b) p ≡ true → (at ops p).write ≡ true) → LeastAge ops (of_bay b) 0

-- a lawful order exists exactly when every read has a write, and none is before it
abbrev pub LawfulOrdersExist : Type 0
LawfulOrdersExist = (ops : List Operation) (held : Operation → Bool) → ByBay held → Timed ops → ((order : List ℕ) × Lawful ops held order) ↔ (Sourced ops held × Unforeseen ops held)

-- lawful orders of the bays combine into one of all operations, whose largest age is the largest of theirs
abbrev pub BaysCombine : Type 0
BaysCombine = (ops : List Operation) (bays : ℕ) (each : ℕ → List ℕ) → Timed ops → ((p : ℕ) → p < length ops → (at ops p).bay < bays) → ((b : ℕ) → b < bays → Lawful ops (of_bay b) (each b)) → (order : List ℕ) × Lawful ops whole order × (largest_age ops whole order ≡ top bays (λ b. largest_age ops (of_bay b) (each b)))

-- a lawful order of all operations restricts to each bay, with no larger age
abbrev pub OrdersRestrict : Type 0
OrdersRestrict = (ops : List Operation) (b : ℕ) (order : List ℕ) → Lawful ops whole order → (part : List ℕ) × Lawful ops (of_bay b) part × (largest_age ops (of_bay b) part ≤ largest_age ops whole order)

-- the largest of the bays' least ages is the least age of all operations
abbrev pub LargestIsLeastAge : Type 0
LargestIsLeastAge = (ops : List Operation) (bays : ℕ) (ages : ℕ → ℕ) → Timed ops → ((p : ℕ) → p < length ops → (at ops p).bay < bays) → ((b : ℕ) → b < bays → LeastAge ops (of_bay b) (ages b)) → LeastAge ops whole (top bays ages)

-- of no operations, the least age is 0
abbrev pub NothingIsLeastAge : Type 0
NothingIsLeastAge = LeastAge [] whole 0

-- the listing holds exactly the run-ups, each once, ascending
abbrev pub ListingHoldsRunUps : Type 0
ListingHoldsRunUps = (g : Graph) (n k : ℕ) → Below g n → ((run : List ℕ) → In run (run_ups g n k) ↔ RunUp g k run) × Ascending (run_ups g n k)

-- so it gives the trials
abbrev pub ListingGivesTrials : Type 0
ListingGivesTrials = (g : Graph) (n k : ℕ) → Below g n → Trials g k (trials g n k)

-- the first value order, if there is one,
abbrev pub ListingGivesFirst : Type 0
ListingGivesFirst = (g : Graph) (n k : ℕ) (run : List ℕ) → Below g n → ValueOrder g k run → First g k (first_order g n k)

-- and what trying comes to, if there is a value order for the number of writes
abbrev pub ListingGivesTried : Type 0
ListingGivesTried = (g : Graph) (n : ℕ) (run : List ℕ) → Below g n → ValueOrder g (tally n g.write) run → Tried g (tried_age g n) (tried_trials g n) (tried_order g n)

-- trying a bay with a write comes to what the listing gives
abbrev pub BayIsTried : Type 0
BayIsTried = (ops : List Operation) (b w : ℕ) → Judgeable ops (of_bay b) → writes ops b w ≡ true → Tried (bay_graph ops b) (tried_age (bay_graph ops b) (length ops)) (tried_trials (bay_graph ops b) (length ops)) (tried_order (bay_graph ops b) (length ops))

-- the trials for k are one number
abbrev pub TrialsAreUnique : Type 0
TrialsAreUnique = (g : Graph) (k c d : ℕ) → Trials g k c → Trials g k d → c ≡ d

-- the first value order for k is one sequence
abbrev pub FirstIsUnique : Type 0
FirstIsUnique = (g : Graph) (k : ℕ) (run other : List ℕ) → First g k run → First g k other → run ≡ other

-- trying comes to one outcome
abbrev pub TriedIsUnique : Type 0
TriedIsUnique = (g : Graph) (k j c d : ℕ) (run other : List ℕ) → Tried g k c run → Tried g j d other → (k ≡ j) × (c ≡ d) × (run ≡ other)
