-- What the tests on operations and their places say, the write of a read, and shortened writes. Assumes nothing.
use Rattle.std.proofs.Common.{◌≡◌, ℕ, zero, suc, ◌<◌, ◌≤◌, min, Bool, true, false, cond, not, ◌&&◌, ◌⊎◌, List, [], ◌∷◌, length, sym, refl, ap, ◌∙◌, inl, inr, arith}
use Rattle.std.proofs.lemmas.Bool.{cases_lt, eqb-true, eq-eqb, ne_eqb, ltb-true, lt-ltb, and_parts, and_from, not-true}
use Rattle.orders.specs.Orders.{Operation, at, before, alike, reads, write_of, writes, whole, of_bay, among, soonest, shortened, read_edge, Distinct}
use Rattle.orders.proofs.Counts.{some_is, is_some}

-- what a test of likeness says
pub record Like (a b : Operation) : Type 0 where
  pub bays : a.bay ≡ b.bay
  pub first : a.value.0 ≡ b.value.0
  pub second : a.value.1 ≡ b.value.1

-- alike operations agree in bay and value
pub like : (a b : Operation) → alike a b ≡ true → Like a b
like a b h =
    let x = and_parts _ _ h in
    let y = and_parts _ _ x.1 in
    record { bays = eqb-true _ _ x.0; first = eqb-true _ _ y.0; second = eqb-true _ _ y.1 }

-- two that are like a third are alike
pub alike_join : (a b c : Operation) → alike a c ≡ true → alike b c ≡ true → alike a b ≡ true
alike_join a b c h k =
    let x = like a c h in
    let y = like b c k in
    and_from _ _ (eq-eqb _ _ (x.bays ∙ sym y.bays)) (and_from _ _ (eq-eqb _ _ (x.first ∙ sym y.first)) (eq-eqb _ _ (x.second ∙ sym y.second)))

-- what a test of reading says
pub record Reading (r w : Operation) : Type 0 where
  pub writing : w.write ≡ true
  pub reading : r.write ≡ false
  pub same : alike w r ≡ true

-- a read of what w writes is one
pub reading : (r w : Operation) → reads r w ≡ true → Reading r w
reading r w h =
    let x = and_parts _ _ h in
    let y = and_parts _ _ x.1 in
    record { writing = x.0; reading = not-true _ y.0; same = y.1 }

-- the smallest finish is at most the write's own
pub soonest_own : (ops : List Operation) (w : Operation) → soonest ops w ≤ w.finish
soonest_own [] w = omega arith
soonest_own (r ∷ rs) w = go (reads r w) (soonest_own rs w)
  where
    go : (b : Bool) → soonest rs w ≤ w.finish → cond b (min r.finish (soonest rs w)) (soonest rs w) ≤ w.finish
    go true more = omega arith
    go false more = more

-- and at most that of each of its reads
pub soonest_read : (ops : List Operation) (w : Operation) (p : ℕ) → p < length ops → reads (at ops p) w ≡ true → soonest ops w ≤ (at ops p).finish
soonest_read [] w p h a = absurd (omega arith)
soonest_read (r ∷ rs) w zero h a = rw a (omega arith)
soonest_read (r ∷ rs) w (suc p) h a = go (reads r w) (soonest_read rs w p (omega arith) a)
  where
    go : (b : Bool) → soonest rs w ≤ (at rs p).finish → cond b (min r.finish (soonest rs w)) (soonest rs w) ≤ (at rs p).finish
    go true more = omega arith
    go false more = more

-- a smallest finish is the write's own, or that of one of its reads
abbrev pub Owned : List Operation → Operation → ℕ → Type 0
Owned ops w tick = (tick ≡ w.finish) ⊎ ((p : ℕ) × (p < length ops) × (reads (at ops p) w ≡ true) × (tick ≡ (at ops p).finish))

-- the smallest finish is one of these
pub soonest_is : (ops : List Operation) (w : Operation) → Owned ops w (soonest ops w)
soonest_is [] w = inl refl
soonest_is (r ∷ rs) w = go (reads r w) refl (cases_lt r.finish (soonest rs w)) (soonest_is rs w)
  where
    later : soonest (r ∷ rs) w ≡ soonest rs w → Owned rs w (soonest rs w) → Owned (r ∷ rs) w (soonest (r ∷ rs) w)
    later e (inl s) = inl (e ∙ s)
    later e (inr s) = inr (suc s.0, omega (arith, s.1), s.2, e ∙ s.3)

    go : (b : Bool) → reads r w ≡ b → ((r.finish < soonest rs w) ⊎ (soonest rs w ≤ r.finish)) → Owned rs w (soonest rs w) → Owned (r ∷ rs) w (soonest (r ∷ rs) w)
    go true e (inl l) more = inr (0, omega arith, e, rw e (omega arith))
    go true e (inr l) more = later (rw e (omega arith)) more
    go false e l more = later (rw e) more

-- the write that is found is one of the bay and value
pub write_of_is : (ops : List Operation) (r : Operation) → write_of ops r < length ops → ((at ops (write_of ops r)).write ≡ true) × (alike (at ops (write_of ops r)) r ≡ true)
write_of_is [] r h = absurd (omega arith)
write_of_is (w ∷ ws) r h = go (w.write && alike w r) refl (write_of_is ws r)
  where
    go : (b : Bool) → (w.write && alike w r) ≡ b → (write_of ws r < length ws → ((at ws (write_of ws r)).write ≡ true) × (alike (at ws (write_of ws r)) r ≡ true)) → ((at (w ∷ ws) (write_of (w ∷ ws) r)).write ≡ true) × (alike (at (w ∷ ws) (write_of (w ∷ ws) r)) r ≡ true)
    go true e more = rw e (and_parts _ _ e)
    go false e more = rw e (more (let m : suc (write_of ws r) < suc (length ws) = rw e at h in omega arith))

-- and the first
pub write_of_le : (ops : List Operation) (r : Operation) (p : ℕ) → p < length ops → (at ops p).write ≡ true → alike (at ops p) r ≡ true → write_of ops r ≤ p
write_of_le [] r p h a b = absurd (omega arith)
write_of_le (w ∷ ws) r zero h a b = rw (and_from _ _ a b) (omega arith)
write_of_le (w ∷ ws) r (suc p) h a b = go (w.write && alike w r) (write_of_le ws r p (omega arith) a b)
  where
    go : (t : Bool) → write_of ws r ≤ p → cond t 0 (suc (write_of ws r)) ≤ suc p
    go true more = omega arith
    go false more = omega arith

-- what a place that holds a write of the bay says
pub record Writing (ops : List Operation) (b p : ℕ) : Type 0 where
  pub below : p < length ops
  pub write : (at ops p).write ≡ true
  pub bay : (at ops p).bay ≡ b

-- what a place of the bay says
pub record Inside (ops : List Operation) (b p : ℕ) : Type 0 where
  pub below : p < length ops
  pub bay : (at ops p).bay ≡ b

module _ (ops : List Operation) where
  -- a held operation's place is among the held ones
  pub among_from : (held : Operation → Bool) (p : ℕ) → p < length ops → held (at ops p) ≡ true → among ops held p ≡ true
  among_from held p l h = and_from _ _ (lt-ltb _ _ l) h

  -- and below the length
  pub below_among : (held : Operation → Bool) (p : ℕ) → among ops held p ≡ true → p < length ops
  below_among held p h = ltb-true _ _ (and_parts _ _ h).0

  -- every place is among those of every bay
  pub whole_among : (p : ℕ) → p < length ops → among ops whole p ≡ true
  whole_among p l = among_from whole p l refl

  -- what is among those of a bay is among those of every bay
  pub in_whole : (b p : ℕ) → among ops (of_bay b) p ≡ true → among ops whole p ≡ true
  in_whole b p h = whole_among p (below_among (of_bay b) p h)

  module _ (b p : ℕ) where
    -- what the test of a write says
    pub writing : writes ops b p ≡ true → Writing ops b p
    writing h =
        let x = and_parts _ _ h in
        let y = and_parts _ _ x.1 in
        record { below = ltb-true _ _ x.0; write = y.0; bay = eqb-true _ _ y.1 }

    -- and what passes it
    pub written : Writing ops b p → writes ops b p ≡ true
    written w = and_from _ _ (lt-ltb _ _ w.below) (and_from _ _ w.write (eq-eqb _ _ w.bay))

    -- what the test of a bay says
    pub within : among ops (of_bay b) p ≡ true → Inside ops b p
    within h = let x = and_parts _ _ h in record { below = ltb-true _ _ x.0; bay = eqb-true _ _ x.1 }

    -- and what passes it
    pub is_within : Inside ops b p → among ops (of_bay b) p ≡ true
    is_within i = among_from (of_bay b) p i.below (eq-eqb _ _ i.bay)

    -- a write of the bay is of the bay
    pub write_within : writes ops b p ≡ true → among ops (of_bay b) p ≡ true
    write_within h = let w = writing h in is_within (record { below = w.below; bay = w.bay })

    -- the write of a read of the bay
    pub source_writes : among ops (of_bay b) p ≡ true → write_of ops (at ops p) < length ops → writes ops b (write_of ops (at ops p)) ≡ true
    source_writes h l =
        let w = write_of_is ops (at ops p) l in
        and_from _ _ (lt-ltb _ _ l) (and_from _ _ w.0 (eq-eqb _ _ ((like (at ops (write_of ops (at ops p))) (at ops p) w.1).bays ∙ (within h).bay)))

  -- where no value is written twice, the write of a read is the one write of its bay and value
  pub write_of_same : (b : ℕ) → Distinct ops (of_bay b) → (r : Operation) (p : ℕ) → Writing ops b p → alike (at ops p) r ≡ true → write_of ops r ≡ p
  write_of_same b distinct r p w s =
      let m : write_of ops r < length ops = omega (arith, write_of_le ops r p w.below w.write s, w.below) in
      let i = write_of_is ops r m in
      let f : (at ops (write_of ops r)).bay ≡ b = (like (at ops (write_of ops r)) r i.1).bays ∙ sym (like (at ops p) r s).bays ∙ w.bay in
      distinct (write_of ops r) p (is_within b _ (record { below = m; bay = f })) (is_within b p (record { below = w.below; bay = w.bay })) i.0 w.write (alike_join (at ops (write_of ops r)) (at ops p) r i.1 s)

  -- what a read edge says
  pub read_edge_is : (u v : ℕ) → read_edge ops u v ≡ true → (r : ℕ) × (r < length ops) × (reads (at ops r) (at ops v) ≡ true) × (before (shortened ops (at ops u)) (at ops r) ≡ true)
  read_edge_is u v h =
      let x = some_is (length ops) _ (and_parts _ _ h).1 in
      let y = and_parts _ _ x.2 in
      (x.0, x.1, y.0, y.1)

  -- and what gives one
  pub is_read_edge : (u v r : ℕ) → (u ≡ v → ⊥) → r < length ops → reads (at ops r) (at ops v) ≡ true → before (shortened ops (at ops u)) (at ops r) ≡ true → read_edge ops u v ≡ true
  is_read_edge u v r ne l rd lt = and_from _ _ (ap not (ne_eqb u v ne)) (is_some (length ops) (λ r. reads (at ops r) (at ops v) && before (shortened ops (at ops u)) (at ops r)) r l (and_from _ _ rd lt))
