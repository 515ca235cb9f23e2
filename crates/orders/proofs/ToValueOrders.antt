-- From a lawful order to a value order: the writes of the bay, in the order. Assumes nothing.
use Rattle.std.proofs.Common.{◌≡◌, ℕ, ◌+◌, ◌-◌, ◌<◌, ◌≤◌, Bool, true, false, cond, not, ◌&&◌, eqb, ltb, ◌⊎◌, List, length, sym, refl, ap, ◌∙◌, inl, inr, le_trans, arith}
use Rattle.std.proofs.lemmas.Bool.{cases_lt, cases_order, eqb-true, eq-eqb, ltb-true, lt-ltb, le-ltb, and_parts, and_from, and_right}
use Rattle.orders.specs.Places.{bit, tally, times, position, Earlier}
use Rattle.orders.specs.RunUps.{ValueOrder}
use Rattle.orders.specs.Orders.{Operation, at, before, write_of, writes, of_bay, among, Lawful, age, largest_age, shortened, write_edge, read_edge, bay_graph, Distinct}
use Rattle.orders.proofs.Counts.{tally_or, tally_both, tally_point}
use Rattle.orders.proofs.Sequences.{position_in, keep, times_keep, keep_earlier, position_keep, ahead_tally}
use Rattle.orders.proofs.Operations.{Writing, Owned, writing, is_within, write_within, like, reading, write_of_same, soonest_is, read_edge_is}
use Rattle.orders.proofs.Ages.{stands_same, age_largest, between, is_between}

module _ (ops : List Operation) (b : ℕ) {order : List ℕ} (distinct : Distinct ops (of_bay b)) (law : Lawful ops (of_bay b) order) where
  -- a write that is, shortened, before an operation stands earlier than it
  short_earlier : (u r : ℕ) → writes ops b u ≡ true → among ops (of_bay b) r ≡ true → before (shortened ops (at ops u)) (at ops r) ≡ true → Earlier order u r
  short_earlier u r w h lt = go (soonest_is ops (at ops u))
    where
      wu : Writing ops b u
      wu = writing ops b u w

      go : Owned ops (at ops u) (shortened ops (at ops u)).finish → Earlier order u r
      go (inl e) = law.timely u r (write_within ops b u w) h (rw e at lt)
      go (inr s) =
          let x = s.0 in
          let rd = reading (at ops x) (at ops u) s.2 in
          let ax : among ops (of_bay b) x ≡ true = is_within ops b x (record { below = s.1; bay = sym (like (at ops u) (at ops x) rd.same).bays ∙ wu.bay }) in
          let first = law.fed x ax rd.reading in
          let second : Earlier order x r = law.timely x r ax h (rw s.3 at lt) in
          omega (arith, ap (position order) (write_of_same ops b distinct (at ops x) u wu rd.same))

  run : List ℕ
  run = keep (writes ops b) order

  -- the writes before r
  ahead_of : ℕ → ℕ → Bool
  ahead_of r p = writes ops b p && ltb (position order p) (position order r)

  times_run : (p : ℕ) → times p run ≡ bit (writes ops b p)
  unfolding run
  times_run p = times_keep (writes ops b) order p ∙ one (writes ops b p) refl
    where
      one : (c : Bool) → writes ops b p ≡ c → cond (writes ops b p) (times p order) 0 ≡ bit (writes ops b p)
      one true e = rw e (law.once p ∙ ap bit (write_within ops b p e))
      one false e = rw e

  in_run : (p : ℕ) → 0 < times p run → writes ops b p ≡ true
  in_run p h = let e = times_run p in grind arith

  position_run : (p : ℕ) → writes ops b p ≡ true → position run p ≡ tally (length ops) (ahead_of p)
  unfolding run ahead_of
  position_run p h = position_keep (writes ops b) order p h ∙ ahead_tally (length ops) (writes ops b) order p once_below
    where
      once_below : (p : ℕ) → times p order ≤ bit (ltb p (length ops))
      once_below p = one (ltb p (length ops)) (of_bay b (at ops p)) (law.once p)
        where
          one : (c d : Bool) → times p order ≡ bit (c && d) → times p order ≤ bit c
          one true true e = omega arith
          one true false e = omega arith
          one false d e = omega arith

  earlier_run : (u v : ℕ) → writes ops b u ≡ true → Earlier order u v → Earlier run u v
  unfolding run
  earlier_run u v hu lt = keep_earlier (writes ops b) order u v hu lt

  -- between two writes in the order there are at most as many as between the first and a read after both
  gap : (u v r : ℕ) → writes ops b u ≡ true → writes ops b v ≡ true → (at ops r).bay ≡ b → write_of ops (at ops r) ≡ v → Earlier order u r → tally (length ops) (ahead_of u) ≤ tally (length ops) (ahead_of v) + tally (length ops) (between ops order r)
  unfolding ahead_of
  gap u v r hu hv bay source lt = omega (arith, tally_both n (λ p. eqb u p) (ahead_of u) (ahead_of r) at_u at_p, at_once u hu, at_once v hv, tally_or n (ahead_of r) (ahead_of v) rest split, tally_or n rest (λ p. eqb v p) (between ops order r) split_rest)
    where
      n : ℕ
      n = length ops

      at_once : (p : ℕ) → writes ops b p ≡ true → tally n (λ q. eqb p q) ≡ 1
      at_once p h = tally_point n p ∙ ap bit (lt-ltb p n (writing ops b p h).below)

      -- a write before r that is not before v
      rest : ℕ → Bool
      rest p = ahead_of r p && not (ltb (position order p) (position order v))

      at_u : (p : ℕ) → p < n → eqb u p ≡ true → (ahead_of r p ≡ true) × (ahead_of u p ≡ false)
      at_u p l e =
          let s : u ≡ p = eqb-true u p e in
          rw (← s) (and_from _ _ hu (lt-ltb _ _ lt), and_right _ _ (le-ltb (position order u) (position order u) (omega arith)))

      at_p : (p : ℕ) → p < n → ahead_of u p ≡ true → ahead_of r p ≡ true
      at_p p l e = let x = and_parts _ _ e in and_from _ _ x.0 (lt-ltb (position order p) (position order r) (omega (arith, ltb-true _ _ x.1)))

      split : (p : ℕ) → p < n → ahead_of r p ≡ true → (ahead_of v p ≡ true) ⊎ (rest p ≡ true)
      split p l e = go (cases_lt (position order p) (position order v))
        where
          go : ((position order p < position order v) ⊎ (position order v ≤ position order p)) → (ahead_of v p ≡ true) ⊎ (rest p ≡ true)
          go (inl k) = inl (and_from _ _ (and_parts _ _ e).0 (lt-ltb _ _ k))
          go (inr k) = inr (and_from _ _ e (ap not (le-ltb _ _ k)))

      split_rest : (p : ℕ) → p < n → rest p ≡ true → (eqb v p ≡ true) ⊎ (between ops order r p ≡ true)
      split_rest p l e = go (cases_order (position order v) (position order p))
        where
          go : ((position order v ≡ position order p) ⊎ ((position order v < position order p) ⊎ (position order p < position order v))) → (eqb v p ≡ true) ⊎ (between ops order r p ≡ true)
          go (inl k) = inl (eq-eqb v p (stands_same law v p (write_within ops b v hv) k))
          go (inr (inl k)) =
              let x = and_parts _ _ (and_parts (ahead_of r p) _ e).0 in
              inr (is_between ops order r p (record { write = rw bay x.0; after = rw source k; ahead = ltb-true _ _ x.1 }))
          go (inr (inr k)) = let x : not (ltb (position order p) (position order v)) ≡ true = (and_parts (ahead_of r p) _ e).1 in let y = lt-ltb _ _ k in grind arith

  -- a lawful order of the bay with no read older than k gives a value order for k
  pub to_value_order : (k w : ℕ) → writes ops b w ≡ true → largest_age ops (of_bay b) order ≤ k → (run : List ℕ) × ValueOrder (bay_graph ops b) k run
  to_value_order k w hw le = (run, record { run_up = record { some = some; once = λ p. omega (arith, times_run p); closed = closed; near = near }; all = λ p h. omega (arith, times_run p, ap bit h) })
    where
      some : 0 < length run
      some = let i = position_in run w (omega (arith, times_run w, ap bit hw)) in omega arith

      closed : (u v : ℕ) → writes ops b u ≡ true → 0 < times v run → write_edge ops u v ≡ true → Earlier run u v
      closed u v hu hv e = earlier_run u v hu (short_earlier u v hu (write_within ops b v (in_run v hv)) e)

      near : (u v : ℕ) → 0 < times u run → 0 < times v run → read_edge ops u v ≡ true → Earlier run v u → position run u ≤ position run v + (k - 1)
      near u v hu hv e lt =
          let ku = in_run u hu in
          let kv = in_run v hv in
          let wv = writing ops b v kv in
          let x = read_edge_is ops u v e in
          let r = x.0 in
          let rd = reading (at ops r) (at ops v) x.2 in
          let bay : (at ops r).bay ≡ b = sym (like (at ops v) (at ops r) rd.same).bays ∙ wv.bay in
          let ar = is_within ops b r (record { below = x.1; bay = bay }) in
          let source = write_of_same ops b distinct (at ops r) v wv rd.same in
          let young : age ops order r ≤ k = le_trans (age_largest ops (of_bay b) order r ar rd.reading) le in
          omega (arith, gap u v r ku kv bay source (short_earlier u r ku ar x.3), position_run u ku, position_run v kv)
