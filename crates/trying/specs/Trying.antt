-- What trying the orders of one bay answers. Assumes nothing.
use Rattle.std.specs.Prelude.{◌≡◌, ℕ, ◌<◌, ◌≤◌, List, map, length, Ok, Err, Result, slice_index}
use Rattle.bays.specs.Verdicts.{BayJudged, Overrun}
use Rattle.gathering.specs.Spans.{Span}
use Rattle.lists.specs.Lists.{listed}
use Rattle.orders.specs.Orders.{Operation, write_count}
use Rattle.searching.specs.Outcome.{Searched}
use Rattle.searching.specs.declared.edges.EdgeMasks.{EdgeMasks}
use Rattle.searching.specs.declared.search.FirstOrder.{FirstOrder}
use Rattle.searching.specs.declared.search.NotFound.{NotFound}
use Rattle.trying.specs.declared.order.BayOrder.{BayOrder}
use Rattle.trying.specs.Edges.{EdgesOf}

-- the places of ranks
abbrev pub placed : List ℕ → List ℕ → List ℕ
placed places ranks = map (λ rank. slice_index places rank) ranks

-- every rank of the first n is one
abbrev pub RanksUpTo : ℕ → List ℕ → Type 0
RanksUpTo n ranks = (i : ℕ) → i < n → slice_index ranks i < n

-- the search over the edges at each of the writes
pub record RanksSearched (ws : List Span) (limit : ℕ) (r : Result FirstOrder NotFound) : Type 0 where
  pub edges : List EdgeMasks
  pub all : length edges ≡ length ws
  pub at_ranks : EdgesOf ws edges
  pub searched : Searched edges limit r

-- judging bay b with so many trials left: its order, or that its trials are more
abbrev pub JudgedWithin : List Operation → (b limit : ℕ) → Result BayOrder NotFound → Type 0
JudgedWithin ops b limit (Ok o) = BayJudged ops b o.age o.trials (listed o.places) × (o.trials ≤ limit) × (length (listed o.places) ≡ write_count ops b)
JudgedWithin ops b limit (Err e) = Overrun ops b limit
