-- What judging one bay comes to. Assumes nothing.
use Rattle.std.specs.Prelude.{◌≡◌, ℕ, ◌<◌, Bool, cond, not, ◌&&◌, List, [], length}
use Rattle.orders.specs.Orders.{Operation, at, of_bay, write_count, bay_graph}
use Rattle.orders.specs.Places.{some}
use Rattle.orders.specs.RunUps.{Tried}

-- bay b has a read
abbrev pub has_read : List Operation → ℕ → Bool
has_read ops b = some (length ops) (λ p. of_bay b (at ops p) && not (at ops p).write)

-- What judging bay b comes to. Without a write (and so, where 14 spares it, without an operation) it is age 0, no trials and no
-- order. Otherwise k = 1, 2, 3 and so on are tried until one has a value order; the age is that k, or 0 where the bay has no read.
pub data BayJudged (ops : List Operation) (b age trials : ℕ) (order : List ℕ) : Type 0 where
  idle : write_count ops b ≡ 0 → age ≡ 0 → trials ≡ 0 → order ≡ [] → BayJudged ops b age trials order
  tried : (k : ℕ) → 0 < write_count ops b → Tried (bay_graph ops b) k trials order → age ≡ cond (has_read ops b) k 0 → BayJudged ops b age trials order

-- the trials of bay b pass the limit
pub record Overrun (ops : List Operation) (b limit : ℕ) : Type 0 where
  pub age : ℕ
  pub trials : ℕ
  pub order : List ℕ
  pub tried : Tried (bay_graph ops b) age trials order
  pub over : limit < trials
