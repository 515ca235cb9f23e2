-- The trials and the age of a judged bay. Assumes nothing.
use Rattle.std.proofs.Common.{◌≡◌, ℕ, zero, suc, ◌<◌, ◌≤◌, Bool, true, false, cond, not, ◌&&◌, ◌⊎◌, List, length, sym, refl, ap, ◌∙◌, subst, inl, inr, arith}
use Rattle.std.proofs.lemmas.Bool.{cases_lt, lt-ltb}
use Rattle.orders.specs.Claims.{Judgeable, a_read}
use Rattle.orders.specs.Listing.{tried_age, tried_trials, tried_order}
use Rattle.orders.specs.Orders.{Operation, at, of_bay, among, writes, write_of, LeastAge, bay_graph}
use Rattle.orders.specs.Places.{some}
use Rattle.orders.specs.RunUps.{Graph, TrialsUpTo, NoneBelow, NoneFor}
use Rattle.orders.proofs.Judged.{bay_is_tried}
use Rattle.orders.proofs.LeastAges.{bay_age, unread_is_least_age}
use Rattle.orders.proofs.Operations.{source_writes}
use Rattle.orders.proofs.Unique.{trials_up_to_unique}
use Rattle.bays.specs.Verdicts.{has_read, BayJudged, idle, tried, Overrun}
use Rattle.bays.proofs.Passing.{some_eq, tally_some}

-- the trials of more k are no fewer
trials_below : (g : Graph) (k j c d : ℕ) → k ≤ j → TrialsUpTo g k c → TrialsUpTo g j d → c ≤ d
trials_below g k zero c d h s t = let e : k ≡ 0 = omega arith in omega (arith, trials_up_to_unique g zero c d (subst (λ i. TrialsUpTo g i c) e s) t)
trials_below g k (suc j) c d h s t = go (cases_lt k (suc j)) (λ l. trials_below g k j c t.0 l s t.2)
  where
    go : ((k < suc j) ⊎ (suc j ≤ k)) → (k ≤ j → c ≤ t.0) → c ≤ d
    go (inl lt) more = omega (arith, more (omega arith), t.4)
    go (inr le) more = let e : k ≡ suc j = omega arith in omega (arith, trials_up_to_unique g (suc j) c d (subst (λ i. TrialsUpTo g i c) e s) t)

module _ (ops : List Operation) (b : ℕ) (judgeable : Judgeable ops (of_bay b)) (w : ℕ) (writes-w : writes ops b w ≡ true) where
  -- where the trials of some tried k pass the limit, all trials do
  pub overrun : (k c limit : ℕ) → NoneBelow (bay_graph ops b) k → TrialsUpTo (bay_graph ops b) k c → limit < c → Overrun ops b limit
  overrun k c limit none all over =
      let t = bay_is_tried ops b w judgeable writes-w in
      let a = tried_age (bay_graph ops b) (length ops) in
      record { age = a; trials = tried_trials (bay_graph ops b) (length ops); order = tried_order (bay_graph ops b) (length ops); tried = t; over = omega (arith, trials_below (bay_graph ops b) k a c _ (late (cases_lt a k)) all t.trials) }
    where
      late : ((tried_age (bay_graph ops b) (length ops) < k) ⊎ (k ≤ tried_age (bay_graph ops b) (length ops))) → k ≤ tried_age (bay_graph ops b) (length ops)
      late (inl lt) = let t = bay_is_tried ops b w judgeable writes-w in absurd (none _ t.from_one lt _ t.first.order)
      late (inr le) = le

  -- some k has a value order
  pub some_order : ((k : ℕ) → 1 ≤ k → NoneFor (bay_graph ops b) k) → ⊥
  some_order none = let t = bay_is_tried ops b w judgeable writes-w in none _ t.from_one _ t.first.order

-- a bay has a read where it has a place that holds one
read_same : (ops : List Operation) (b : ℕ) → some (length ops) (a_read ops b) ≡ has_read ops b
read_same ops b = some_eq (length ops) (a_read ops b) (λ p. of_bay b (at ops p) && not (at ops p).write) (λ p h. ap (λ t. (t && of_bay b (at ops p)) && not (at ops p).write) (lt-ltb p (length ops) h))

-- the age of a judged bay is the least
pub least_age : (ops : List Operation) (b age trials : ℕ) (order : List ℕ) → Judgeable ops (of_bay b) → BayJudged ops b age trials order → LeastAge ops (of_bay b) age
least_age ops b age trials order j (idle none a t o) = subst (LeastAge ops (of_bay b)) (sym a) (unread_is_least_age ops b j.timed (λ p h. only p h (at ops p).write refl))
  where
    only : (p : ℕ) → among ops (of_bay b) p ≡ true → (t : Bool) → (at ops p).write ≡ t → (at ops p).write ≡ true
    only p h true e = e
    only p h false e =
        let w = source_writes ops b p h (j.sourced p h e) in
        absurd (omega (arith, none, tally_some (length ops) (writes ops b) (write_of ops (at ops p)) (j.sourced p h e) w))
least_age ops b age trials order j (tried k some t a) = subst (LeastAge ops (of_bay b)) (ap (λ c. cond c k 0) (read_same ops b) ∙ sym a) (bay_age ops b k trials order j t)
