-- What a lawful order says of the places in it, and the ages of reads in an order. Assumes nothing.
use Rattle.std.proofs.Common.{◌≡◌, ℕ, ◌<◌, ◌≤◌, Bool, true, false, cond, not, ◌&&◌, eqb, ltb, List, length, refl, ap, arith}
use Rattle.std.proofs.lemmas.Bool.{eqb-true, ltb-true, lt-ltb, le-ltb, and_parts, and_from, and_left, and_right, not-true}
use Rattle.orders.specs.Places.{bit, position, Earlier}
use Rattle.orders.specs.Orders.{Operation, at, write_of, writes, write_count, of_bay, among, Lawful, age, largest_age}
use Rattle.orders.proofs.Counts.{tally_le, tally_both, tally_point, le_top, top_le}
use Rattle.orders.proofs.Sequences.{position_in, position_same, earlier_in}
use Rattle.orders.proofs.Operations.{among_from, below_among, within, source_writes}

module _ {ops : List Operation} {held : Operation → Bool} {order : List ℕ} (law : Lawful ops held order) where
  -- a held operation stands in the order
  pub stands : (p : ℕ) → among ops held p ≡ true → position order p < length order
  stands p h = position_in order p (omega (arith, law.once p, ap bit h))

  -- what stands earlier than anything is held
  pub earlier_held : (a b : ℕ) → Earlier order a b → among ops held a ≡ true
  earlier_held a b lt = let i = earlier_in order a b lt in let o = law.once a in grind arith

  -- two held operations at one position are one
  pub stands_same : (a b : ℕ) → among ops held a ≡ true → position order a ≡ position order b → a ≡ b
  stands_same a b h e = position_same order a b (stands a h) e

  -- the write of a held read is a write of its bay
  pub fed_writes : (r : ℕ) → among ops held r ≡ true → (at ops r).write ≡ false → (b : ℕ) → among ops (of_bay b) r ≡ true → writes ops b (write_of ops (at ops r)) ≡ true
  fed_writes r h e b i = source_writes ops b r i (below_among ops held _ (earlier_held _ r (law.fed r h e)))

module _ (ops : List Operation) (held : Operation → Bool) (order : List ℕ) where
  -- a held read's age is at most the largest
  pub age_largest : (r : ℕ) → among ops held r ≡ true → (at ops r).write ≡ false → age ops order r ≤ largest_age ops held order
  age_largest r h e =
      let x = and_parts _ _ h in
      let t : (held (at ops r) && not (at ops r).write) ≡ true = and_from _ _ x.1 (ap not e) in
      let m : cond (held (at ops r) && not (at ops r).write) (age ops order r) 0 ≤ largest_age ops held order = le_top (length ops) (λ r. cond (held (at ops r) && not (at ops r).write) (age ops order r) 0) r (ltb-true _ _ x.0) in
      rw t at m

  -- the largest is at most what the age of each held read is at most
  pub largest_le : (m : ℕ) → ((r : ℕ) → among ops held r ≡ true → (at ops r).write ≡ false → age ops order r ≤ m) → largest_age ops held order ≤ m
  largest_le m h = top_le (length ops) (λ r. cond (held (at ops r) && not (at ops r).write) (age ops order r) 0) m (λ r l. one r l (held (at ops r) && not (at ops r).write) refl)
    where
      one : (r : ℕ) → r < length ops → (c : Bool) → (held (at ops r) && not (at ops r).write) ≡ c → cond (held (at ops r) && not (at ops r).write) (age ops order r) 0 ≤ m
      one r l true e = let x = and_parts _ _ e in rw e (h r (among_from ops held r l x.0) (not-true _ x.1))
      one r l false e = rw e (omega arith)

-- the test that an age counts by
abbrev pub between : List Operation → List ℕ → ℕ → ℕ → Bool
between ops order r p = writes ops (at ops r).bay p && (ltb (position order (write_of ops (at ops r))) (position order p) && ltb (position order p) (position order r))

-- and what it says
pub record Between (ops : List Operation) (order : List ℕ) (r p : ℕ) : Type 0 where
  pub write : writes ops (at ops r).bay p ≡ true
  pub after : Earlier order (write_of ops (at ops r)) p
  pub ahead : Earlier order p r

-- what passes it stands between
pub between_is : (ops : List Operation) (order : List ℕ) (r p : ℕ) → between ops order r p ≡ true → Between ops order r p
between_is ops order r p h =
    let x = and_parts _ _ h in
    let y = and_parts _ _ x.1 in
    record { write = x.0; after = ltb-true _ _ y.0; ahead = ltb-true _ _ y.1 }

-- and what stands between passes it
pub is_between : (ops : List Operation) (order : List ℕ) (r p : ℕ) → Between ops order r p → between ops order r p ≡ true
is_between ops order r p x = and_from _ _ x.write (and_from _ _ (lt-ltb _ _ x.after) (lt-ltb _ _ x.ahead))

-- a read is no older in an order in which no more writes stand between
pub age_le : (ops : List Operation) (one other : List ℕ) (r : ℕ) → ((p : ℕ) → Between ops one r p → Between ops other r p) → age ops one r ≤ age ops other r
age_le ops one other r h = omega (arith, tally_le (length ops) (between ops one r) (between ops other r) (λ p l e. is_between ops other r p (h p (between_is ops one r p e))))

-- an age is at most the number of writes of the bay
pub age_le_writes : (ops : List Operation) (b : ℕ) (order : List ℕ) → Lawful ops (of_bay b) order → (r : ℕ) → among ops (of_bay b) r ≡ true → (at ops r).write ≡ false → age ops order r ≤ write_count ops b
age_le_writes ops b order law r h e = omega (arith, tally_both (length ops) (λ p. eqb v p) (between ops order r) (writes ops b) point inner, tally_point (length ops) v, ap bit (lt-ltb v (length ops) (below_among ops (of_bay b) v (earlier_held law v r (law.fed r h e)))))
  where
    v : ℕ
    v = write_of ops (at ops r)

    point : (p : ℕ) → p < length ops → eqb v p ≡ true → (writes ops b p ≡ true) × (between ops order r p ≡ false)
    point p l s = let q : v ≡ p = eqb-true v p s in rw (← q) (fed_writes law r h e b h, and_right _ _ (and_left _ _ (le-ltb (position order v) (position order v) (omega arith))))

    inner : (p : ℕ) → p < length ops → between ops order r p ≡ true → writes ops b p ≡ true
    inner p l s = rw (within ops b r h).bay at (between_is ops order r p s).write
