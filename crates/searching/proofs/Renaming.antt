-- A strictly rising renaming of the writes keeps run-ups, their order and their number.
use Rattle.std.proofs.Common.{◌≡◌, ℕ, zero, suc, ◌<◌, Bool, true, false, ltb, List, [], ◌∷◌, map, sym, refl, ap, ◌∙◌, subst, ap₂, inl, inr, ⊎_elim, arith}
use Rattle.std.proofs.lemmas.List.{length-map}
use Rattle.std.proofs.lemmas.Bool.{cases_eq, cases_order, eq-eqb, ne_eqb, lt-ltb, ltb-true}
use Rattle.orders.specs.Places.{bit, times, position}
use Rattle.orders.specs.RunUps.{Graph, RunUp, ValueOrder, Comes, In, Ascending, Unbeaten, First, NoneFor, Trials, TrialsUpTo, NoneBelow, Tried}
use Rattle.searching.proofs.Holding.{in_mapped, mapped_in}
use Rattle.searching.proofs.Indices.{members_below}

-- the writes of g are the ranks below n, and each rank's place is its write of h
pub record Renamed (g h : Graph) (n : ℕ) (place : ℕ → ℕ) : Type 0 where
  pub ranks : (i : ℕ) → g.write i ≡ ltb i n
  pub rising : (i j : ℕ) → i < j → j < n → place i < place j
  pub listed : (i : ℕ) → i < n → h.write (place i) ≡ true
  pub only : (p : ℕ) → h.write p ≡ true → (i : ℕ) × (i < n) × (place i ≡ p)
  pub write_edges : (i j : ℕ) → i < n → j < n → g.write_edge i j ≡ h.write_edge (place i) (place j)
  pub read_edges : (i j : ℕ) → i < n → j < n → g.read_edge i j ≡ h.read_edge (place i) (place j)

-- every member is a rank
abbrev Ranks : ℕ → List ℕ → Type 0
Ranks n l = (i : ℕ) → 0 < times i l → i < n

own_times : (x : ℕ) (xs : List ℕ) → 0 < times x (x ∷ xs)
own_times x xs = omega (arith, ap bit (eq-eqb x x refl))

ranks_tail : (n x : ℕ) (xs : List ℕ) → Ranks n (x ∷ xs) → Ranks n xs
ranks_tail n x xs r i h = r i (omega arith)

ranks_cons : (n x : ℕ) (xs : List ℕ) → x < n → Ranks n xs → Ranks n (x ∷ xs)
ranks_cons n x xs lt r i =
    ⊎_elim (λ e h. subst (λ y. y < n) e lt) (λ ne. rw (ne_eqb x i ne) (λ h. r i (omega arith))) (cases_eq x i)

module _ {g h : Graph} {n : ℕ} {place : ℕ → ℕ} (r : Renamed g h n place) where
  apart : (i j : ℕ) → i < n → j < n → (i ≡ j → ⊥) → place i ≡ place j → ⊥
  apart i j a b ne e =
      ⊎_elim ne (λ o. ⊎_elim (λ lt. omega (arith, r.rising i j lt b)) (λ gt. omega (arith, r.rising j i gt a)) o) (cases_order i j)

  below : (i j : ℕ) → i < n → j < n → place i < place j → i < j
  below i j a b lt =
      ⊎_elim (λ e. absurd (omega (arith, ap place e))) (λ o. ⊎_elim (λ l. l) (λ gt. absurd (omega (arith, r.rising j i gt a))) o) (cases_order i j)

  times_renamed : (l : List ℕ) → Ranks n l → (i : ℕ) → i < n → times (place i) (map place l) ≡ times i l
  times_renamed [] m i lt = refl
  times_renamed (x ∷ xs) m i lt =
      let more = times_renamed xs (ranks_tail n x xs m) i lt in
      let own = m x (own_times x xs) in
      ⊎_elim
      (λ e. omega (arith, ap bit (eq-eqb x i e), ap bit (eq-eqb (place x) (place i) (ap place e))))
      (λ ne. omega (arith, ap bit (ne_eqb x i ne), ap bit (ne_eqb (place x) (place i) (apart x i own lt ne))))
      (cases_eq x i)

  position_renamed : (l : List ℕ) → Ranks n l → (i : ℕ) → i < n → position (map place l) (place i) ≡ position l i
  position_renamed [] m i lt = refl
  position_renamed (x ∷ xs) m i lt =
      let more = position_renamed xs (ranks_tail n x xs m) i lt in
      let own = m x (own_times x xs) in
      ⊎_elim
      (λ e. rw (eq-eqb x i e, eq-eqb (place x) (place i) (ap place e)))
      (λ ne. rw (ne_eqb x i ne, ne_eqb (place x) (place i) (apart x i own lt ne)) (ap suc more))
      (cases_eq x i)

  times_in : (l : List ℕ) → Ranks n l → (p : ℕ) → 0 < times p (map place l) → (i : ℕ) × (i < n) × (place i ≡ p) × (0 < times i l)
  times_in [] m p = λ t. absurd (omega arith)
  times_in (x ∷ xs) m p =
      let more = times_in xs (ranks_tail n x xs m) p in
      ⊎_elim
      (λ e t. (x, m x (own_times x xs), e, own_times x xs))
      (λ ne. rw (ne_eqb (place x) p ne) (λ t. let at = more (omega arith) in (at.0, at.1, at.2, omega (arith, at.3))))
      (cases_eq (place x) p)

  comes_renamed : (a b : List ℕ) → Ranks n a → Ranks n b → Comes a b → Comes (map place a) (map place b)
  comes_renamed [] [] l m c = c
  comes_renamed [] (y ∷ ys) l m c = c
  comes_renamed (x ∷ xs) [] l m c = c
  comes_renamed (x ∷ xs) (y ∷ ys) l m c =
      ⊎_elim
      (λ lt. inl (r.rising x y lt (m y (own_times y ys))))
      (λ e. inr (ap place e.0, comes_renamed xs ys (ranks_tail n x xs l) (ranks_tail n y ys m) e.1))
      c

  comes_back : (a b : List ℕ) → Ranks n a → Ranks n b → Comes (map place a) (map place b) → Comes a b
  comes_back [] [] l m c = c
  comes_back [] (y ∷ ys) l m c = c
  comes_back (x ∷ xs) [] l m c = c
  comes_back (x ∷ xs) (y ∷ ys) l m c =
      let a = l x (own_times x xs) in
      let b = m y (own_times y ys) in
      ⊎_elim
      (λ lt. inl (below x y a b lt))
      (λ e. inr (⊎_elim (λ s. s) (λ ne. absurd (apart x y a b ne e.0)) (cases_eq x y), comes_back xs ys (ranks_tail n x xs l) (ranks_tail n y ys m) e.1))
      c

  unmap : (q : List ℕ) → ((p : ℕ) → 0 < times p q → h.write p ≡ true) → (run : List ℕ) × (q ≡ map place run) × Ranks n run
  unmap [] w = ([], refl, λ i t. absurd (omega arith))
  unmap (x ∷ xs) w =
      let at = r.only x (w x (own_times x xs)) in
      let more = unmap xs (λ p t. w p (omega arith)) in (
        at.0 ∷ more.0,
        ap₂ (λ (y : ℕ) (l : List ℕ). y ∷ l) (sym at.2) more.1,
        ranks_cons n at.0 more.0 at.1 more.2,
      )

  module _ (k : ℕ) where
    run_ranks : {run : List ℕ} → RunUp g k run → Ranks n run
    run_ranks u = members_below g n k r.ranks u

    written : {q : List ℕ} → RunUp h k q → (p : ℕ) → 0 < times p q → h.write p ≡ true
    written u p t = true_from (h.write p) (omega (arith, u.once p))
      where
        true_from : (b : Bool) → 0 < bit b → b ≡ true
        true_from true l = refl
        true_from false l = absurd (omega arith)

    pub run_up_renamed : (run : List ℕ) → RunUp g k run → RunUp h k (map place run)
    run_up_renamed run u =
        let m = run_ranks u in
        record {
          some = omega (arith, length-map run place, u.some);
          once = λ p. ⊎_elim
              (λ none. omega arith)
              (λ some.
              let at = times_in run m p (omega arith) in
              let same = ap (λ q. times q (map place run)) (sym at.2) ∙ times_renamed run m at.0 at.1 in
              omega (arith, u.once at.0, ap bit (r.ranks at.0 ∙ lt-ltb at.0 n at.1), ap (λ q. bit (h.write q)) (sym at.2) ∙ ap bit (r.listed at.0 at.1)))
              (cases_eq (times p (map place run)) 0);
          closed = λ a b w t e.
              let i = r.only a w in
              let j = times_in run m b t in
              let lt = u.closed i.0 j.0 (r.ranks i.0 ∙ lt-ltb i.0 n i.1) j.3 (r.write_edges i.0 j.0 i.1 j.1 ∙ ap₂ h.write_edge i.2 j.2 ∙ e) in
              let x = ap (position (map place run)) (sym i.2) ∙ position_renamed run m i.0 i.1 in
              let y = ap (position (map place run)) (sym j.2) ∙ position_renamed run m j.0 j.1 in
              omega arith;
          near = λ a b s t e l.
              let i = times_in run m a s in
              let j = times_in run m b t in
              let x = ap (position (map place run)) (sym i.2) ∙ position_renamed run m i.0 i.1 in
              let y = ap (position (map place run)) (sym j.2) ∙ position_renamed run m j.0 j.1 in
              let le = u.near i.0 j.0 i.3 j.3 (r.read_edges i.0 j.0 i.1 j.1 ∙ ap₂ h.read_edge i.2 j.2 ∙ e) (omega arith) in
              omega arith;
        }

    run_up_back : (run : List ℕ) → Ranks n run → RunUp h k (map place run) → RunUp g k run
    run_up_back run m u = record {
      some = omega (arith, length-map run place, u.some);
      once = λ i. ⊎_elim
          (λ none. omega arith)
          (λ some.
          let lt = m i (omega arith) in
          omega (arith, times_renamed run m i lt, u.once (place i), ap bit (r.listed i lt), ap bit (r.ranks i ∙ lt-ltb i n lt)))
          (cases_eq (times i run) 0);
      closed = λ i j w t e.
          let a = ltb-true i n (sym (r.ranks i) ∙ w) in
          let b = m j t in
          let lt = u.closed (place i) (place j) (r.listed i a) (omega (arith, times_renamed run m j b)) (sym (r.write_edges i j a b) ∙ e) in
          omega (arith, position_renamed run m i a, position_renamed run m j b);
      near = λ i j s t e l.
          let a = m i s in
          let b = m j t in
          let x = position_renamed run m i a in
          let y = position_renamed run m j b in
          let le = u.near (place i) (place j) (omega (arith, times_renamed run m i a)) (omega (arith, times_renamed run m j b)) (sym (r.read_edges i j a b) ∙ e) (omega arith) in
          omega arith;
    }

    -- every run-up of h is one of g renamed
    run_up_from : (q : List ℕ) → RunUp h k q → (run : List ℕ) × (q ≡ map place run) × RunUp g k run
    run_up_from q u =
        let t = unmap q (written u) in
        (t.0, t.1, run_up_back t.0 t.2 (subst (RunUp h k) t.1 u))

    pub order_renamed : (run : List ℕ) → ValueOrder g k run → ValueOrder h k (map place run)
    order_renamed run v = record {
      run_up = run_up_renamed run v.run_up;
      all = λ p w.
          let i = r.only p w in
          let same = ap (λ q. times q (map place run)) (sym i.2) ∙ times_renamed run (run_ranks v.run_up) i.0 i.1 in
          omega (arith, v.all i.0 (r.ranks i.0 ∙ lt-ltb i.0 n i.1));
    }

    order_from : (q : List ℕ) → ValueOrder h k q → (run : List ℕ) × (q ≡ map place run) × ValueOrder g k run
    order_from q v =
        let t = run_up_from q v.run_up in (
          t.0,
          t.1,
          record {
            run_up = t.2;
            all = λ i w.
                let lt = ltb-true i n (sym (r.ranks i) ∙ w) in
                let have = subst (λ l. 0 < times (place i) l) t.1 (v.all (place i) (r.listed i lt)) in
                omega (arith, times_renamed t.0 (run_ranks t.2) i lt);
          },
        )

    unbeaten_renamed : (run : List ℕ) → Ranks n run → Unbeaten g k run → Unbeaten h k (map place run)
    unbeaten_renamed run m x q v c =
        let t = order_from q v in
        x t.0 t.2 (comes_back t.0 run (run_ranks t.2.run_up) m (subst (λ l. Comes l (map place run)) t.1 c))

    unbeaten_back : (run : List ℕ) → Ranks n run → Unbeaten h k (map place run) → Unbeaten g k run
    unbeaten_back run m x q v c = x (map place q) (order_renamed q v) (comes_renamed q run (run_ranks v.run_up) m c)

    pub none_renamed : NoneFor g k → NoneFor h k
    none_renamed x q v = let t = order_from q v in x t.0 t.2

    pub first_renamed : (run : List ℕ) → First g k run → First h k (map place run)
    first_renamed run f = record {
      order = order_renamed run f.order;
      unbeaten = unbeaten_renamed run (run_ranks f.order.run_up) f.unbeaten;
    }

    ascending_renamed : (l : List (List ℕ)) → ((q : List ℕ) → In q l → Ranks n q) → Ascending l → Ascending (map (map place) l)
    ascending_renamed [] m a = tt
    ascending_renamed (x ∷ xs) m a = (
      λ q i. let t = in_mapped (map place) xs q i in subst (Comes (map place x)) (sym t.2) (comes_renamed x t.0 (m x (inl refl)) (m t.0 (inr t.1)) (a.0 t.0 t.1)),
      ascending_renamed xs (λ q i. m q (inr i)) a.1,
    )

    pub trials_renamed : (c : ℕ) → Trials g k c → Trials h k c
    trials_renamed c x = record {
      listed = map (map place) x.listed;
      number = length-map x.listed (map place) ∙ x.number;
      ascending = ascending_renamed x.listed (λ q i. run_ranks (x.only q i).0) x.ascending;
      only = λ q i.
          let t = in_mapped (map place) x.listed q i in
          let o = x.only t.0 t.1 in
          subst (λ l. RunUp h k l × Unbeaten h k l) (sym t.2) (run_up_renamed t.0 o.0, unbeaten_renamed t.0 (run_ranks o.0) o.1);
      all = λ q u un.
          let t = run_up_from q u in
          subst (λ l. In l (map (map place) x.listed)) (sym t.1)
          (mapped_in (map place) x.listed t.0 (x.all t.0 t.2 (unbeaten_back t.0 (run_ranks t.2) (subst (Unbeaten h k) t.1 un))));
    }

  pub none_below_renamed : (k : ℕ) → NoneBelow g k → NoneBelow h k
  none_below_renamed k x j a b = none_renamed j (x j a b)

  pub trials_up_to_renamed : (k c : ℕ) → TrialsUpTo g k c → TrialsUpTo h k c
  trials_up_to_renamed zero c x = x
  trials_up_to_renamed (suc k) c x = (x.0, x.1, trials_up_to_renamed k x.0 x.2, trials_renamed (suc k) x.1 x.3, x.4)

  pub tried_renamed : (k c : ℕ) (run : List ℕ) → Tried g k c run → Tried h k c (map place run)
  tried_renamed k c run x = record {
    from_one = x.from_one;
    none_below = none_below_renamed k x.none_below;
    first = first_renamed k run x.first;
    trials = trials_up_to_renamed k c x.trials;
  }
