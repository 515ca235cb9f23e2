-- When one more write may stand behind a run-up. Assumes nothing.
use Rattle.std.proofs.Common.{◌≡◌, ℕ, ◌+◌, ◌-◌, ◌<◌, ◌≤◌, Bool, true, false, not, ◌&&◌, ◌||◌, eqb, ltb, leb, ◌⊎◌, List, [], ◌∷◌, ◌++◌, length, sym, refl, ap, ◌∙◌, inl, inr, arith}
use Rattle.std.proofs.lemmas.Bool.Decides.{nat_tests}
use Rattle.std.proofs.lemmas.Bool.{cases_eq, eqb-true, eq-eqb, ltb-true, lt-ltb, leb-true, le-leb, and_parts, and_from}
use Rattle.orders.specs.Places.{bit, every, times, position, Earlier}
use Rattle.orders.specs.RunUps.{Graph}
use Rattle.orders.specs.Listing.{Below, grows}
use Rattle.orders.proofs.Counts.{bit_small, imply, is_imply, total_le, total_zero, total_ones, every_is, is_every}
use Rattle.orders.proofs.Sequences.{position_in, earlier_in, times_append, position_append_in, position_append_out, length_total}

-- a run-up, or nothing
pub record Sound (g : Graph) (k : ℕ) (run : List ℕ) : Type 0 where
  pub once : (p : ℕ) → times p run ≤ bit (g.write p)
  pub closed : (u v : ℕ) → g.write u ≡ true → 0 < times v run → g.write_edge u v ≡ true → Earlier run u v
  pub near : (u v : ℕ) → 0 < times u run → 0 < times v run → g.read_edge u v ≡ true → Earlier run v u → position run u ≤ position run v + (k - 1)

-- what the test of one more says
pub record Grows (g : Graph) (k : ℕ) (run : List ℕ) (p : ℕ) : Type 0 where
  pub write : g.write p ≡ true
  pub new : times p run ≡ 0
  pub fed : (u : ℕ) → g.write u ≡ true → g.write_edge u p ≡ true → 0 < times u run
  pub close : (v : ℕ) → 0 < times v run → g.read_edge p v ≡ true → length run ≤ position run v + (k - 1)

-- a member that stands as often as a bit says passes
pub member_writes : (c : Bool) (m : ℕ) → m ≤ bit c → 0 < m → c ≡ true
member_writes true m l h = refl
member_writes false m l h = absurd (omega arith)

module _ (g : Graph) (n k : ℕ) (below : Below g n) (run : List ℕ) where
  -- a member is a place below n
  pub member_below : ((p : ℕ) → times p run ≤ bit (g.write p)) → (p : ℕ) → 0 < times p run → p < n
  member_below once p h = below p (member_writes (g.write p) (times p run) (once p) h)

  -- a run-up has at most n members
  pub length_le : ((p : ℕ) → times p run ≤ bit (g.write p)) → length run ≤ n
  length_le once = omega (arith, length_total n run (member_below once), total_le n (λ p. times p run) (λ _. 1) (λ _. 0) (λ p l. omega (arith, once p, bit_small (g.write p))), total_ones n, total_zero n)

  module _ (p : ℕ) where
    feeds : ℕ → Bool
    feeds u = not (g.write u && g.write_edge u p) || ltb 0 (times u run)

    nears : ℕ → Bool
    nears v = not (ltb 0 (times v run) && g.read_edge p v) || leb (length run) (position run v + (k - 1))

    pub grows_is : Sound g k run → grows g n k run p ≡ true → Grows g k run p
    unfolding feeds nears
    grows_is sound h =
        let x = and_parts _ _ h in
        let y = and_parts _ _ x.1 in
        let z = and_parts (every n feeds) (every n nears) y.1 in
        record {
          write = x.0;
          new = eqb-true _ _ y.0;
          fed = λ u w e. ltb-true _ _ (imply _ _ (every_is n feeds z.0 u (below u w)) (and_from _ _ w e));
          close = λ v m e. leb-true _ _ (imply _ _ (every_is n nears z.1 v (member_below sound.once v m)) (and_from _ _ (lt-ltb _ _ m) e));
        }

    pub is_grows : Grows g k run p → grows g n k run p ≡ true
    unfolding feeds nears
    is_grows x = and_from _ _ x.write (and_from _ _ (eq-eqb _ _ x.new) (and_from _ _ (is_every n feeds all_feeds) (is_every n nears all_nears)))
      where
        all_feeds : (u : ℕ) → u < n → feeds u ≡ true
        all_feeds u l = is_imply _ _ (λ h. (let y = and_parts _ _ h in lt-ltb _ _ (x.fed u y.0 y.1)))

        all_nears : (v : ℕ) → v < n → nears v ≡ true
        all_nears v l = is_imply _ _ (λ h. (let y = and_parts _ _ h in le-leb _ _ (x.close v (ltb-true _ _ y.0) y.1)))

module _ (g : Graph) (k : ℕ) (run : List ℕ) where
  -- what a run-up begins with is one
  pub sound_front : (more : List ℕ) → Sound g k (run ++ more) → Sound g k run
  sound_front more sound = record { once = λ x. (let o = sound.once x in omega (arith, count x)); closed = closed; near = near }
    where
      count : (x : ℕ) → times x (run ++ more) ≡ times x run + times x more
      count x = times_append x run more

      old : (x : ℕ) → 0 < times x run → position (run ++ more) x ≡ position run x
      old x h = position_append_in run more x h

      closed : (u v : ℕ) → g.write u ≡ true → 0 < times v run → g.write_edge u v ≡ true → Earlier run u v
      closed u v w h e = one (cases_eq (times u run) 0)
        where
          c : Earlier (run ++ more) u v
          c = sound.closed u v w (omega (arith, count v)) e

          one : ((times u run ≡ 0) ⊎ (times u run ≡ 0 → ⊥)) → Earlier run u v
          one (inl z) = absurd (omega (arith, c, old v h, position_append_out run more u z, position_in run v h))
          one (inr z) = let m : 0 < times u run = omega arith in omega (arith, c, old u m, old v h)

      near : (u v : ℕ) → 0 < times u run → 0 < times v run → g.read_edge u v ≡ true → Earlier run v u → position run u ≤ position run v + (k - 1)
      near u v hu hv e lt = omega (arith, sound.near u v (omega (arith, count u)) (omega (arith, count v)) e (omega (arith, old u hu, old v hv)), old u hu, old v hv)

  module _ (p : ℕ) where
    longer : List ℕ
    longer = run ++ (p ∷ [])

    count : (x : ℕ) → times x longer ≡ times x run + (bit (eqb p x) + 0)
    unfolding longer
    count x = times_append x run (p ∷ [])

    old : (x : ℕ) → 0 < times x run → position longer x ≡ position run x
    unfolding longer
    old x h = position_append_in run (p ∷ []) x h

    newest : (x : ℕ) → times x run ≡ 0 → position longer x ≡ length run + position (p ∷ []) x
    unfolding longer
    newest x z = position_append_out run (p ∷ []) x z

    here : bit (eqb p p) ≡ 1
    here = ap bit (eq-eqb p p refl)

    last : times p run ≡ 0 → position longer p ≡ length run
    last z = newest p z ∙ grind (arith, nat_tests)

    -- a member is an old one, or p
    which : (x : ℕ) → 0 < times x longer → (0 < times x run) ⊎ (p ≡ x)
    which x h = one (cases_eq p x)
      where
        one : ((p ≡ x) ⊎ (p ≡ x → ⊥)) → (0 < times x run) ⊎ (p ≡ x)
        one (inl e) = inr e
        one (inr e) = let d = count x in inl (grind (arith, nat_tests))

    -- with one more that passes the test it is a run-up
    pub sound_grow : Sound g k run → Grows g k run p → Sound g k (run ++ (p ∷ []))
    unfolding longer
    sound_grow sound x = record { once = once; closed = closed; near = near }
      where
        once : (y : ℕ) → times y longer ≤ bit (g.write y)
        once y = one (cases_eq p y)
          where
            one : ((p ≡ y) ⊎ (p ≡ y → ⊥)) → times y longer ≤ bit (g.write y)
            one (inl e) =
                let none : times y run ≡ 0 = rw (← e) x.new in
                let write : g.write y ≡ true = rw (← e) x.write in
                let d = count y in
                grind (arith, nat_tests)
            one (inr e) = let d = count y in let o = sound.once y in grind (arith, nat_tests)

        closed : (u v : ℕ) → g.write u ≡ true → 0 < times v longer → g.write_edge u v ≡ true → Earlier longer u v
        closed u v w h e = one (which v h)
          where
            one : (0 < times v run) ⊎ (p ≡ v) → Earlier longer u v
            one (inl m) = let c = sound.closed u v w m e in omega (arith, old u (earlier_in run u v c), old v m)
            one (inr s) =
                let m = x.fed u w (rw s e) in
                let j : position longer v ≡ length run = rw (← s) (last x.new) in
                omega (arith, position_in run u m, old u m)

        near : (u v : ℕ) → 0 < times u longer → 0 < times v longer → g.read_edge u v ≡ true → Earlier longer v u → position longer u ≤ position longer v + (k - 1)
        near u v hu hv e lt = one (which u hu) (which v hv)
          where
            one : (0 < times u run) ⊎ (p ≡ u) → (0 < times v run) ⊎ (p ≡ v) → position longer u ≤ position longer v + (k - 1)
            one (inl m) (inl l) = omega (arith, sound.near u v m l e (omega (arith, old u m, old v l)), old u m, old v l)
            one (inl m) (inr s) = let j : position longer v ≡ length run = rw (← s) (last x.new) in absurd (omega (arith, position_in run u m, old u m))
            one (inr s) (inl l) = let j : position longer u ≡ length run = rw (← s) (last x.new) in omega (arith, x.close v l (rw s e), old v l)
            one (inr s) (inr t) = absurd (omega (arith, ap (position longer) (sym s ∙ t)))

    -- and the last of a run-up passes it
    pub last_grows : Sound g k (run ++ (p ∷ [])) → Grows g k run p
    unfolding longer
    last_grows sound = record { write = member_writes (g.write p) (times p longer) (sound.once p) within; new = new; fed = fed; close = close }
      where
        within : 0 < times p longer
        within = omega (arith, count p, here)

        new : times p run ≡ 0
        new = omega (arith, sound.once p, count p, here, bit_small (g.write p))

        fed : (u : ℕ) → g.write u ≡ true → g.write_edge u p ≡ true → 0 < times u run
        fed u w e = one (cases_eq (times u run) 0)
          where
            one : ((times u run ≡ 0) ⊎ (times u run ≡ 0 → ⊥)) → 0 < times u run
            one (inl z) = absurd (omega (arith, sound.closed u p w within e, last new, newest u z))
            one (inr z) = omega arith

        close : (v : ℕ) → 0 < times v run → g.read_edge p v ≡ true → length run ≤ position run v + (k - 1)
        close v h e = omega (arith, old v h, last new, sound.near p v within (omega (arith, count v)) e (omega (arith, old v h, position_in run v h, last new)))
