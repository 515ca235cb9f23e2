-- From a value order to a lawful order of the bay: each read goes behind the last write that reaches it. Assumes nothing.
use Rattle.std.proofs.Common.{◌≡◌, ℕ, suc, ◌+◌, ◌-◌, ◌*◌, ◌<◌, ◌≤◌, Bool, true, false, cond, not, ◌&&◌, ◌||◌, eqb, ◌⊎◌, List, length, refl, ap, inl, inr, arith}
use Rattle.std.proofs.lemmas.Bool.{cases_eq, cases_lt, cases_order, eqb-true, eq-eqb, ltb-true, lt-ltb, and_parts, and_from, or_cases, or_left, or_right}
use Rattle.orders.specs.Places.{top, position, Earlier}
use Rattle.orders.specs.RunUps.{ValueOrder}
use Rattle.orders.specs.Orders.{Operation, at, before, reads, write_of, writes, of_bay, among, Lawful, age, largest_age, shortened, bay_graph, Timed, Sourced}
use Rattle.orders.proofs.Counts.{tally_le, le_top, top_is}
use Rattle.orders.proofs.Sequences.{position_in, position_same, window, window_le}
use Rattle.orders.proofs.Sorted.{pair, pair_first, pair_second, pair_same, arrange, times_arranged, arranged_earlier, arranged_key}
use Rattle.orders.proofs.Operations.{writing, written, within, write_within, source_writes, write_of_is, soonest_own, soonest_read, is_read_edge}
use Rattle.orders.proofs.Ages.{between, Between, between_is, largest_le}

-- the write u is the one of r, or shortened is before r
abbrev reaches : List Operation → ℕ → ℕ → ℕ → Bool
reaches ops b r u = writes ops b u && (eqb u (write_of ops (at ops r)) || before (shortened ops (at ops u)) (at ops r))

-- the last position of a write that reaches r
abbrev slot : List Operation → ℕ → List ℕ → ℕ → ℕ
slot ops b run r = top (length ops) (λ u. cond (reaches ops b r u) (position run u) 0)

-- by position, and in one slot the write first
abbrev mark : List Operation → ℕ → List ℕ → ℕ → ℕ
mark ops b run p = cond (at ops p).write (2 * position run p) (2 * slot ops b run p + 1)

-- at one mark by start, and then by place
abbrev key : List Operation → ℕ → List ℕ → ℕ → ℕ
key ops b run p = pair (length ops) (mark ops b run) (pair (length ops) (λ x. (at ops x).start) (λ x. x)) p

module _ (ops : List Operation) (b k : ℕ) (run : List ℕ) (timed : Timed ops) (sourced : Sourced ops (of_bay b)) (positive : 1 ≤ k) (value : ValueOrder (bay_graph ops b) k run) where
  -- the write of a read of the bay, and that the read reads it
  record Source (r : ℕ) : Type 0 where
    write : writes ops b (write_of ops (at ops r)) ≡ true
    reads : reads (at ops r) (at ops (write_of ops (at ops r))) ≡ true

  source : (r : ℕ) → among ops (of_bay b) r ≡ true → (at ops r).write ≡ false → Source r
  source r h e =
      let w = write_of_is ops (at ops r) (sourced r h e) in
      record { write = source_writes ops b r h (sourced r h e); reads = and_from _ _ w.0 (and_from _ _ (ap not e) w.1) }

  own_reaches : (r : ℕ) → Source r → reaches ops b r (write_of ops (at ops r)) ≡ true
  own_reaches r s = and_from _ _ s.write (or_left _ _ (eq-eqb (write_of ops (at ops r)) (write_of ops (at ops r)) refl))

  short_reaches : (r u : ℕ) → writes ops b u ≡ true → before (shortened ops (at ops u)) (at ops r) ≡ true → reaches ops b r u ≡ true
  short_reaches r u w h = and_from _ _ w (or_right _ _ h)

  reach_writes : (r u : ℕ) → reaches ops b r u ≡ true → writes ops b u ≡ true
  reach_writes r u h = (and_parts _ _ h).0

  slot_ge : (r u : ℕ) → reaches ops b r u ≡ true → position run u ≤ slot ops b run r
  slot_ge r u h =
      let m : cond (reaches ops b r u) (position run u) 0 ≤ slot ops b run r = le_top (length ops) (λ u. cond (reaches ops b r u) (position run u) 0) u (writing ops b u (reach_writes r u h)).below in
      rw h at m

  -- the slot is the position of a write that reaches r
  record Slot (r : ℕ) : Type 0 where
    last : ℕ
    reached : reaches ops b r last ≡ true
    is : slot ops b run r ≡ position run last

  slot_is : (r : ℕ) → Source r → Slot r
  slot_is r s = go (top_is (length ops) (λ u. cond (reaches ops b r u) (position run u) 0))
    where
      own : slot ops b run r ≡ 0 → Slot r
      own z = record { last = write_of ops (at ops r); reached = own_reaches r s; is = omega (arith, slot_ge r (write_of ops (at ops r)) (own_reaches r s)) }

      go : (slot ops b run r ≡ 0) ⊎ ((p : ℕ) × (p < length ops) × (slot ops b run r ≡ cond (reaches ops b r p) (position run p) 0)) → Slot r
      go (inl z) = own z
      go (inr m) = one (reaches ops b r m.0) refl
        where
          one : (c : Bool) → reaches ops b r m.0 ≡ c → Slot r
          one true e = record { last = m.0; reached = e; is = rw e at m.2 }
          one false e = own (rw e at m.2)

  -- a write that reaches r is, shortened, before whatever r is before
  reach_before : (r x z : ℕ) → r < length ops → Source r → reaches ops b r x ≡ true → before (at ops r) (at ops z) ≡ true → before (shortened ops (at ops x)) (at ops z) ≡ true
  reach_before r x z l s h lt = go (or_cases _ _ (and_parts (writes ops b x) _ h).1)
    where
      go : (eqb x (write_of ops (at ops r)) ≡ true) ⊎ (before (shortened ops (at ops x)) (at ops r) ≡ true) → before (shortened ops (at ops x)) (at ops z) ≡ true
      go (inl e) = rw (eqb-true x _ e) (lt-ltb _ _ (omega (arith, soonest_read ops (at ops (write_of ops (at ops r))) r l s.reads, ltb-true _ _ lt)))
      go (inr e) = lt-ltb _ _ (omega (arith, ltb-true _ _ e, timed r l, ltb-true _ _ lt))

  mark_write : (p : ℕ) → (at ops p).write ≡ true → mark ops b run p ≡ 2 * position run p
  mark_write p e = rw e

  mark_read : (p : ℕ) → (at ops p).write ≡ false → mark ops b run p ≡ 2 * slot ops b run p + 1
  mark_read p e = rw e

  -- a smaller mark is a smaller key
  by_mark : (a c : ℕ) → a < length ops → mark ops b run a < mark ops b run c → key ops b run a < key ops b run c
  by_mark a c l h = pair_first (length ops) (mark ops b run) _ a c l h

  below : (p : ℕ) → among ops (of_bay b) p ≡ true → p < length ops
  below p h = (within ops b p h).below

  differ : (a c : ℕ) → among ops (of_bay b) a ≡ true → among ops (of_bay b) c ≡ true → key ops b run a ≡ key ops b run c → a ≡ c
  differ a c ha hc e = (pair_same (length ops) (λ x. (at ops x).start) (λ x. x) a c (below a ha) (below c hc) (pair_same (length ops) (mark ops b run) _ a c (below a ha) (below c hc) e).1).1

  is_write : (p : ℕ) → among ops (of_bay b) p ≡ true → (at ops p).write ≡ true → writes ops b p ≡ true
  is_write p h e = let i = within ops b p h in written ops b p (record { below = i.below; write = e; bay = i.bay })

  -- a shortened write is before whatever the write is before
  short_before : (a c : ℕ) → before (at ops a) (at ops c) ≡ true → before (shortened ops (at ops a)) (at ops c) ≡ true
  short_before a c lt = lt-ltb _ _ (omega (arith, soonest_own ops (at ops a), ltb-true _ _ lt))

  -- before gives a smaller key
  key_before : (a c : ℕ) → among ops (of_bay b) a ≡ true → among ops (of_bay b) c ≡ true → before (at ops a) (at ops c) ≡ true → key ops b run a < key ops b run c
  key_before a c ha hc lt = go (at ops a).write refl (at ops c).write refl
    where
      go : (x : Bool) → (at ops a).write ≡ x → (y : Bool) → (at ops c).write ≡ y → key ops b run a < key ops b run c
      go true ea true ec = by_mark a c (below a ha) (omega (arith, value.run_up.closed a c (is_write a ha ea) (value.all c (is_write c hc ec)) (short_before a c lt), mark_write a ea, mark_write c ec))
      go true ea false ec = by_mark a c (below a ha) (omega (arith, slot_ge c a (short_reaches c a (is_write a ha ea) (short_before a c lt)), mark_write a ea, mark_read c ec))
      go false ea true ec =
          let x = slot_is a (source a ha ea) in
          let e = value.run_up.closed x.last c (reach_writes a x.last x.reached) (value.all c (is_write c hc ec)) (reach_before a x.last c (below a ha) (source a ha ea) x.reached lt) in
          by_mark a c (below a ha) (omega (arith, mark_read a ea, mark_write c ec))
      go false ea false ec = two (cases_eq (slot ops b run a) (slot ops b run c))
        where
          x : Slot a
          x = slot_is a (source a ha ea)

          le : position run x.last ≤ slot ops b run c
          le = slot_ge c x.last (short_reaches c x.last (reach_writes a x.last x.reached) (reach_before a x.last c (below a ha) (source a ha ea) x.reached lt))

          two : ((slot ops b run a ≡ slot ops b run c) ⊎ (slot ops b run a ≡ slot ops b run c → ⊥)) → key ops b run a < key ops b run c
          two (inl e) = pair_second (length ops) (mark ops b run) _ a c (omega (arith, mark_read a ea, mark_read c ec)) (pair_first (length ops) (λ x. (at ops x).start) (λ x. x) a c (below a ha) (omega (arith, timed a (below a ha), ltb-true _ _ lt)))
          two (inr e) = by_mark a c (below a ha) (omega (arith, mark_read a ea, mark_read c ec, le, x.is))

  abbrev order : List ℕ
  order = arrange (key ops b run) (among ops (of_bay b)) (length ops)

  by_key : (a c : ℕ) → among ops (of_bay b) a ≡ true → among ops (of_bay b) c ≡ true → key ops b run a < key ops b run c → Earlier order a c
  by_key a c ha hc lt = arranged_earlier (length ops) (among ops (of_bay b)) (key ops b run) below differ a c ha hc lt

  lawful : Lawful ops (of_bay b) order
  lawful = record {
    once = times_arranged (length ops) (among ops (of_bay b)) (key ops b run) below differ;
    timely = λ a c ha hc lt. by_key a c ha hc (key_before a c ha hc lt);
    fed = fed;
  }
    where
      fed : (r : ℕ) → among ops (of_bay b) r ≡ true → (at ops r).write ≡ false → Earlier order (write_of ops (at ops r)) r
      fed r h e =
          let s = source r h e in
          let v = write_of ops (at ops r) in
          let w = writing ops b v s.write in
          by_key v r (write_within ops b v s.write) h (by_mark v r w.below (omega (arith, slot_ge r v (own_reaches r s), mark_write v w.write, mark_read r e)))

  -- what stands earlier has no greater mark
  mark_by : (a c : ℕ) → among ops (of_bay b) c ≡ true → Earlier order a c → mark ops b run c < mark ops b run a → ⊥
  mark_by a c hc lt h = omega (arith, by_mark c a (below c hc) h, arranged_key (length ops) (among ops (of_bay b)) (key ops b run) below differ a c hc lt)

  apart : (x y : ℕ) → writes ops b x ≡ true → writes ops b y ≡ true → position run x ≡ position run y → x ≡ y
  apart x y hx hy e = position_same run x y (position_in run x (value.all x hx)) e

  -- the slot of a read is at most k - 1 positions behind its write
  slot_near : (r : ℕ) → r < length ops → Source r → slot ops b run r ≤ position run (write_of ops (at ops r)) + (k - 1)
  slot_near r l s = go (or_cases _ _ (and_parts (writes ops b u) _ x.reached).1) (cases_lt (position run v) (position run u))
    where
      v : ℕ
      v = write_of ops (at ops r)

      x : Slot r
      x = slot_is r s

      u : ℕ
      u = x.last

      go : (eqb u v ≡ true) ⊎ (before (shortened ops (at ops u)) (at ops r) ≡ true) → ((position run v < position run u) ⊎ (position run u ≤ position run v)) → slot ops b run r ≤ position run v + (k - 1)
      go d (inr le) = omega (arith, x.is)
      go (inl e) (inl lt) = absurd (omega (arith, ap (position run) (eqb-true u v e)))
      go (inr e) (inl lt) = omega (arith, x.is, value.run_up.near u v (value.all u (reach_writes r u x.reached)) (value.all v s.write) (is_read_edge ops u v r (λ same. omega (arith, ap (position run) same)) l s.reads e) lt)

  age_near : (r : ℕ) → among ops (of_bay b) r ≡ true → (at ops r).write ≡ false → age ops order r ≤ k
  age_near r h e = omega (arith, tally_le (length ops) (between ops order r) (window (writes ops b) (position run) (position run v) d) each, window_le (length ops) (writes ops b) (position run) apart (position run v) d, slot_near r (below r h) s)
    where
      v : ℕ
      v = write_of ops (at ops r)

      s : Source r
      s = source r h e

      d : ℕ
      d = slot ops b run r - position run v

      each : (p : ℕ) → p < length ops → between ops order r p ≡ true → window (writes ops b) (position run) (position run v) d p ≡ true
      each p l t = and_from _ _ wp (and_from _ _ (lt-ltb _ _ (more (cases_order (position run v) (position run p)))) (lt-ltb _ _ (less (cases_lt (slot ops b run r) (position run p)))))
        where
          x : Between ops order r p
          x = between_is ops order r p t

          wp : writes ops b p ≡ true
          wp = rw (within ops b r h).bay at x.write

          more : ((position run v ≡ position run p) ⊎ ((position run v < position run p) ⊎ (position run p < position run v))) → position run v < position run p
          more (inl q) = absurd (omega (arith, ap (position order) (apart v p s.write wp q), x.after))
          more (inr (inl q)) = q
          more (inr (inr q)) = absurd (mark_by v p (write_within ops b p wp) x.after (omega (arith, mark_write v (writing ops b v s.write).write, mark_write p (writing ops b p wp).write)))

          less : ((slot ops b run r < position run p) ⊎ (position run p ≤ slot ops b run r)) → position run p < suc (position run v + d)
          less (inl q) = absurd (mark_by p r h x.ahead (omega (arith, mark_write p (writing ops b p wp).write, mark_read r e)))
          less (inr q) = omega (arith, slot_ge r v (own_reaches r s))

  -- a value order for k gives a lawful order of the bay with no read older than k
  pub from_value_order : (order : List ℕ) × Lawful ops (of_bay b) order × (largest_age ops (of_bay b) order ≤ k)
  from_value_order = (order, lawful, largest_le ops (of_bay b) order k age_near)
