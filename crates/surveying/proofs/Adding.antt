-- Ages, trials and writes added up over bays. Assumes nothing.
use Rattle.std.proofs.Common.{◌≡◌, ℕ, zero, suc, ◌<◌, ◌≤◌, ◌⊎◌, List, length, sym, refl, ◌∙◌, inl, inr, arith}
use Rattle.std.proofs.lemmas.List.{length-append}
use Rattle.std.proofs.lemmas.Bool.{cases_lt}
use Rattle.orders.specs.Claims.{Judgeable}
use Rattle.orders.specs.Orders.{Operation, whole, writes, write_count, LeastAge}
use Rattle.orders.specs.Places.{bit, total, top}
use Rattle.orders.proofs.Counts.{total_add, total_zero, total_ones, total_le, tally_one}
use Rattle.orders.proofs.LeastAges.{judgeable_bay, largest_is_least_age}
use Rattle.orders.proofs.Operations.{writing}
use Rattle.bays.proofs.Ages.{least_age}
use Rattle.surveying.specs.Laws.{InCrane}
use Rattle.surveying.specs.Surveying.{crane_bays, judged_age, judged_trials, judged_order, orders_below}
use Rattle.surveying.proofs.Outcomes.{bay_judged, order_length}

-- a sum of fewer is no larger
pub total_rising : (n : ℕ) (f : ℕ → ℕ) (i : ℕ) → i ≤ n → total i f ≤ total n f
total_rising zero f i l = let e : i ≡ 0 = omega arith in rw e (omega arith)
total_rising (suc n) f i l = go (cases_lt i (suc n)) (total_rising n f i)
  where
    go : ((i < suc n) ⊎ (suc n ≤ i)) → (i ≤ n → total i f ≤ total n f) → total i f ≤ total (suc n) f
    go (inl lt) more = omega (arith, more (omega arith))
    go (inr le) more = let e : i ≡ suc n = omega arith in rw e (omega arith)

-- a sum by rows is that by columns
total_swap : (m n : ℕ) (f : ℕ → ℕ → ℕ) → total m (λ a. total n (f a)) ≡ total n (λ b. total m (λ a. f a b))
total_swap zero n f = sym (total_zero n)
total_swap (suc m) n f = omega (arith, total_swap m n f, total_add n (f m) (λ b. total m (λ a. f a b)))

module _ (ops : List Operation) where
  -- each operation is a write of one bay at most
  pub writes_few : (n : ℕ) → total n (write_count ops) ≤ length ops
  writes_few n = omega (
    arith,
    total_swap n (length ops) (λ b p. bit (writes ops b p)),
    total_le (length ops) (λ p. total n (λ b. bit (writes ops b p))) (λ _. 1) (λ _. 0) (λ p l. (let one = tally_one n (λ b. writes ops b p) (λ a b h k u v. sym (writing ops a p u).bay ∙ (writing ops b p v).bay) in omega arith)),
    total_ones (length ops),
    total_zero (length ops),
  )

  module _ (judgeable : Judgeable ops whole) where
    -- the orders have as many places as the bays have writes
    pub orders_length : (n : ℕ) → length (orders_below ops n) ≡ total n (write_count ops)
    orders_length zero = refl
    orders_length (suc n) = omega (arith, length-append (orders_below ops n) (judged_order ops n), orders_length n, order_length ops n (judgeable_bay n judgeable))

    -- the largest age of the bays is the least age of all operations
    pub least_of_all : InCrane ops → LeastAge ops whole (top crane_bays (judged_age ops))
    least_of_all inside = largest_is_least_age ops crane_bays (judged_age ops) judgeable.timed inside (λ b l. let j = judgeable_bay b judgeable in least_age ops b (judged_age ops b) (judged_trials ops b) (judged_order ops b) j (bay_judged ops b j))

-- the least age is one number
pub least_same : {ops : List Operation} (k j : ℕ) → LeastAge ops whole k → LeastAge ops whole j → k ≡ j
least_same k j a b = omega (arith, a.least b.order b.lawful, b.least a.order a.lawful, a.has, b.has)
