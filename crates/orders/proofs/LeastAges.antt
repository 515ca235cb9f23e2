-- The least age of a bay, and of all operations. Assumes nothing.
use Rattle.std.proofs.Common.{◌≡◌, ℕ, ◌<◌, ◌≤◌, Bool, true, false, cond, not, ◌⊎◌, List, [], length, sym, refl, ap, ◌∙◌, inl, inr, le_trans, le_antisymm, arith}
use Rattle.std.proofs.lemmas.Bool.{cases_lt, and_parts, and_from, not-true, true≢false}
use Rattle.orders.specs.Places.{some}
use Rattle.orders.specs.RunUps.{Tried}
use Rattle.orders.specs.Orders.{Operation, at, write_of, write_count, whole, of_bay, among, Lawful, largest_age, LeastAge, bay_graph}
use Rattle.orders.specs.Claims.{Judgeable, a_read, ValueOrdersAreLawfulOrders, TryingEnds, TriedIsLeastAge, UnreadIsLeastAge, LargestIsLeastAge, NothingIsLeastAge}
use Rattle.orders.proofs.Counts.{top_le, top_eq, some_is, is_some}
use Rattle.orders.proofs.Operations.{in_whole, below_among, source_writes}
use Rattle.orders.proofs.Ages.{age_largest, largest_le, age_le_writes}
use Rattle.orders.proofs.ToValueOrders.{to_value_order}
use Rattle.orders.proofs.FromValueOrders.{from_value_order}
use Rattle.orders.proofs.Existence.{bay_order}
use Rattle.orders.proofs.Restricting.{orders_restrict}
use Rattle.orders.proofs.Combining.{bays_combine}

-- what is assumed of all operations holds of each bay
pub judgeable_bay : {ops : List Operation} (b : ℕ) → Judgeable ops whole → Judgeable ops (of_bay b)
judgeable_bay {ops} b j = record {
  timed = j.timed;
  distinct = λ u v hu hv. j.distinct u v (in_whole ops b u hu) (in_whole ops b v hv);
  sourced = λ r h. j.sourced r (in_whole ops b r h);
  unforeseen = λ r h. j.unforeseen r (in_whole ops b r h);
}

-- value orders for k and lawful orders with no read older than k
pub value_orders_are_lawful_orders : ValueOrdersAreLawfulOrders
value_orders_are_lawful_orders ops b k w j hw positive = (
  λ v. from_value_order ops b k v.0 j.timed j.sourced positive v.1,
  λ o. to_value_order ops b j.distinct o.1 k w hw o.2,
)

-- there is a value order for the number of writes
pub trying_ends : TryingEnds
trying_ends ops b w j hw =
    let o = bay_order ops b j.timed j.sourced j.unforeseen in
    to_value_order ops b j.distinct o.1 (write_count ops b) w hw (largest_le ops (of_bay b) o.0 _ (age_le_writes ops b o.0 o.1))

-- of a bay with a read, the k that trying finds is the least age
pub tried_is_least_age : TriedIsLeastAge
tried_is_least_age ops b r k c run j h e t =
    let o = from_value_order ops b k run j.timed j.sourced t.from_one t.first.order in
    record { order = o.0; lawful = o.1; has = le_antisymm o.2 (least o.0 o.1); least = least }
  where
    least : (other : List ℕ) → Lawful ops (of_bay b) other → k ≤ largest_age ops (of_bay b) other
    least other law = go (cases_lt (largest_age ops (of_bay b) other) k)
      where
        go : ((largest_age ops (of_bay b) other < k) ⊎ (k ≤ largest_age ops (of_bay b) other)) → k ≤ largest_age ops (of_bay b) other
        go (inr le) = le
        go (inl lt) =
            let v = to_value_order ops b j.distinct law (largest_age ops (of_bay b) other) (write_of ops (at ops r)) (source_writes ops b r h (j.sourced r h e)) (omega arith) in
            absurd (t.none_below (largest_age ops (of_bay b) other) (omega (arith, age_largest ops (of_bay b) other r h e)) lt v.0 v.1)

-- of a bay without a read, the least age is 0
pub unread_is_least_age : UnreadIsLeastAge
unread_is_least_age ops b timed unread =
    let o = bay_order ops b timed (λ r h e. no_read r h e) (λ r h e. no_read r h e) in
    let none : largest_age ops (of_bay b) o.0 ≤ 0 = largest_le ops (of_bay b) o.0 0 (λ r h e. no_read r h e) in
    record { order = o.0; lawful = o.1; has = omega arith; least = λ other law. omega arith }
  where
    no_read : {A : Type 0} (r : ℕ) → among ops (of_bay b) r ≡ true → (at ops r).write ≡ false → A
    no_read r h e = absurd (true≢false (sym (unread r h) ∙ e))

-- the least age of a bay: what trying finds, 0 without a read
pub bay_age : (ops : List Operation) (b k c : ℕ) (run : List ℕ) → Judgeable ops (of_bay b) → Tried (bay_graph ops b) k c run → LeastAge ops (of_bay b) (cond (some (length ops) (a_read ops b)) k 0)
bay_age ops b k c run j t = go (some (length ops) (a_read ops b)) refl
  where
    go : (e : Bool) → some (length ops) (a_read ops b) ≡ e → LeastAge ops (of_bay b) (cond e k 0)
    go true e =
        let x = some_is (length ops) (a_read ops b) e in
        let y = and_parts _ _ x.2 in
        tried_is_least_age ops b x.0 k c run j y.0 (not-true _ y.1) t
    go false e = unread_is_least_age ops b j.timed (λ p h. one p h (at ops p).write refl)
      where
        one : (p : ℕ) → among ops (of_bay b) p ≡ true → (w : Bool) → (at ops p).write ≡ w → (at ops p).write ≡ true
        one p h true w = w
        one p h false w = absurd (true≢false (sym (is_some (length ops) (a_read ops b) p (below_among ops (of_bay b) p h) (and_from _ _ h (ap not w))) ∙ e))

-- the largest of the bays' least ages is the least age of all operations
pub largest_is_least_age : LargestIsLeastAge
largest_is_least_age ops bays ages timed few each =
    let o = bays_combine ops bays (λ b. pick b (cases_lt b bays)) timed few (λ b l. lawful b l (cases_lt b bays)) in
    record {
      order = o.0;
      lawful = o.1;
      has = o.2 ∙ top_eq bays _ ages (λ b l. same b l (cases_lt b bays));
      least = λ other law. top_le bays ages _ (λ b l. let part = orders_restrict ops b other law in le_trans ((each b l).least part.0 part.1) part.2);
    }
  where
    pick : (b : ℕ) → ((b < bays) ⊎ (bays ≤ b)) → List ℕ
    pick b (inl l) = (each b l).order
    pick b (inr l) = []

    lawful : (b : ℕ) → b < bays → (c : (b < bays) ⊎ (bays ≤ b)) → Lawful ops (of_bay b) (pick b c)
    lawful b l (inl k) = (each b k).lawful
    lawful b l (inr k) = absurd (omega arith)

    same : (b : ℕ) → b < bays → (c : (b < bays) ⊎ (bays ≤ b)) → largest_age ops (of_bay b) (pick b c) ≡ ages b
    same b l (inl k) = (each b k).has
    same b l (inr k) = absurd (omega arith)

-- of no operations, the least age is 0
pub nothing_is_least_age : NothingIsLeastAge
nothing_is_least_age = largest_is_least_age [] 0 (λ b. 0) (λ p l. absurd (omega arith)) (λ p l. absurd (omega arith)) (λ b l. absurd (omega arith))
