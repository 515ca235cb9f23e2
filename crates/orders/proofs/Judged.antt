-- What trying k = 1, 2, 3 and so on comes to is what the listing gives. Assumes nothing.
use Rattle.std.proofs.Common.{◌≡◌, ℕ, zero, suc, ◌+◌, ◌<◌, ◌≤◌, Bool, true, false, cond, eqb, ltb, ◌⊎◌, List, [], ◌∷◌, length, sym, refl, ap, ◌∙◌, inl, inr, arith}
use Rattle.std.proofs.lemmas.Bool.{cases_eq, eqb-true, eq-eqb, ltb-true, lt-ltb, true≢false}
use Rattle.orders.specs.Places.{bit, tally, times}
use Rattle.orders.specs.RunUps.{Graph, RunUp, ValueOrder, Comes, In, Ascending, TrialsUpTo}
use Rattle.orders.specs.Orders.{bay_graph}
use Rattle.orders.specs.Listing.{Below, run_ups, until, first_of, trials, first_order, first_from, trials_up_to}
use Rattle.orders.specs.Claims.{ListingGivesTrials, ListingGivesFirst, ListingGivesTried, BayIsTried}
use Rattle.orders.proofs.Counts.{total_eq, total_tight}
use Rattle.orders.proofs.Sequences.{length_total}
use Rattle.orders.proofs.Operations.{writing}
use Rattle.orders.proofs.Growing.{member_below}
use Rattle.orders.proofs.Listed.{listing_holds_run_ups}
use Rattle.orders.proofs.Unique.{comes_once, comes_self}
use Rattle.orders.proofs.LeastAges.{trying_ends}

-- what comes before the first of an ascending list is no member
first_unbeaten : (x : List ℕ) (xs : List (List ℕ)) → Ascending (x ∷ xs) → (y : List ℕ) → In y (x ∷ xs) → Comes y x → ⊥
first_unbeaten x xs a y (inl e) c = comes_self y x e c
first_unbeaten x xs a y (inr i) c = comes_once x y (a.0 y i) c

module _ (many : ℕ) where
  -- what is left after a sequence that may be the last
  tail : (x q : List ℕ) (xs : List (List ℕ)) → In q (cond (eqb (length x) many) [] xs) → (eqb (length x) many ≡ false) × In q xs
  tail x q xs i = go (eqb (length x) many) i
    where
      go : (c : Bool) → In q (cond c [] xs) → (c ≡ false) × In q xs
      go true i = elim i [ ]
      go false i = (refl, i)

  -- what is kept is a member
  until_in : (l : List (List ℕ)) (q : List ℕ) → In q (until many l) → In q l
  until_in [] q i = i
  until_in (x ∷ xs) q (inl e) = inl e
  until_in (x ∷ xs) q (inr i) = inr (until_in xs q (tail x q (until many xs) i).1)

  -- and ascends
  until_ascending : (l : List (List ℕ)) → Ascending l → Ascending (until many l)
  until_ascending [] a = a
  until_ascending (x ∷ xs) a = (λ q i. a.0 q (until_in xs q (tail x q (until many xs) i).1), go (eqb (length x) many) (until_ascending xs a.1))
    where
      go : (c : Bool) → Ascending (until many xs) → Ascending (cond c [] (until many xs))
      go true more = tt
      go false more = more

  -- nothing of so many places comes before what is kept
  until_only : (l : List (List ℕ)) → Ascending l → (p q : List ℕ) → In p (until many l) → In q l → length q ≡ many → Comes q p → ⊥
  until_only [] a p q i j e c = i
  until_only (x ∷ xs) a p q (inl s) j e c = first_unbeaten x xs a q j (rw s at c)
  until_only (x ∷ xs) a p q (inr i) (inl s) e c = true≢false (sym (eq-eqb _ _ (ap length (sym s) ∙ e)) ∙ (tail x p (until many xs) i).0)
  until_only (x ∷ xs) a p q (inr i) (inr j) e c = until_only xs a.1 p q (tail x p (until many xs) i).1 j e c

  -- and whatever has nothing such before it is kept
  until_all : (l : List (List ℕ)) → Ascending l → (p : List ℕ) → In p l → ((q : List ℕ) → In q l → length q ≡ many → Comes q p → ⊥) → In p (until many l)
  until_all [] a p i h = i
  until_all (x ∷ xs) a p (inl e) h = inl e
  until_all (x ∷ xs) a p (inr i) h = inr (go (eqb (length x) many) refl (until_all xs a.1 p i (λ q j. h q (inr j))))
    where
      go : (c : Bool) → eqb (length x) many ≡ c → In p (until many xs) → In p (cond c [] (until many xs))
      go true e more = absurd (h x (inl refl) (eqb-true _ _ e) (a.0 p i))
      go false e more = more

  -- a sequence that is first of so many places in a list
  record FirstOf (l : List (List ℕ)) (r : List ℕ) : Type 0 where
    within : In r l
    full : length r ≡ many
    unbeaten : (q : List ℕ) → In q l → length q ≡ many → Comes q r → ⊥

  -- where there is one of so many places, the first is found
  first_of_is : (l : List (List ℕ)) → Ascending l → (q : List ℕ) → In q l → length q ≡ many → FirstOf l (first_of many l)
  first_of_is [] a q i e = elim i [ ]
  first_of_is (x ∷ xs) a q i e = go (eqb (length x) many) refl i (λ j. first_of_is xs a.1 q j e)
    where
      go : (c : Bool) → eqb (length x) many ≡ c → In q (x ∷ xs) → (In q xs → FirstOf xs (first_of many xs)) → FirstOf (x ∷ xs) (cond c x (first_of many xs))
      go true f i more = record { within = inl refl; full = eqb-true _ _ f; unbeaten = λ s j k c. first_unbeaten x xs a s j c }
      go false f (inl s) more = absurd (true≢false (sym (eq-eqb _ _ (ap length (sym s) ∙ e)) ∙ f))
      go false f (inr j) more = let m = more j in record { within = inr m.within; full = m.full; unbeaten = unbeaten m }
        where
          unbeaten : FirstOf xs (first_of many xs) → (s : List ℕ) → In s (x ∷ xs) → length s ≡ many → Comes s (first_of many xs) → ⊥
          unbeaten m s (inl t) k c = true≢false (sym (eq-eqb _ _ (ap length (sym t) ∙ k)) ∙ f)
          unbeaten m s (inr t) k c = m.unbeaten s t k c

  -- one that is found is a member of so many places
  first_of_in : (l : List (List ℕ)) → 0 < length (first_of many l) → In (first_of many l) l × (length (first_of many l) ≡ many)
  first_of_in [] h = absurd (omega arith)
  first_of_in (x ∷ xs) h = go (eqb (length x) many) refl h (first_of_in xs)
    where
      go : (c : Bool) → eqb (length x) many ≡ c → 0 < length (cond c x (first_of many xs)) → (0 < length (first_of many xs) → In (first_of many xs) xs × (length (first_of many xs) ≡ many)) → In (cond c x (first_of many xs)) (x ∷ xs) × (length (cond c x (first_of many xs)) ≡ many)
      go true e h more = (inl refl, eqb-true _ _ e)
      go false e h more = let m = more h in (inr m.0, m.1)

module _ (g : Graph) (n k : ℕ) (below : Below g n) where
  -- a run-up with as many members as there are writes is a value order
  pub full_order : (run : List ℕ) → RunUp g k run → length run ≡ tally n g.write → ValueOrder g k run
  full_order run r e = record { run_up = r; all = λ p w. omega (arith, ap bit w, total_tight n (λ p. times p run) (λ p. bit (g.write p)) (λ q l. r.once q) (omega (arith, length_total n run (member_below g n k below run r.once))) p (below p w)) }

  -- and a value order has so many
  pub order_full : (run : List ℕ) → ValueOrder g k run → length run ≡ tally n g.write
  order_full run v = length_total n run (member_below g n k below run v.run_up.once) ∙ total_eq n (λ p. times p run) (λ p. bit (g.write p)) (λ p l. one p (g.write p) refl)
    where
      one : (p : ℕ) (c : Bool) → g.write p ≡ c → times p run ≡ bit (g.write p)
      one p true e = omega (arith, ap bit e, v.all p e, v.run_up.once p)
      one p false e = omega (arith, ap bit e, v.run_up.once p)

  -- a listed sequence is a run-up
  listed_is : (run : List ℕ) → In run (run_ups g n k) → RunUp g k run
  listed_is run i = ((listing_holds_run_ups g n k below).0 run).0 i

  -- and a run-up is listed
  is_listed : (run : List ℕ) → RunUp g k run → In run (run_ups g n k)
  is_listed run r = ((listing_holds_run_ups g n k below).0 run).1 r

  ascending : Ascending (run_ups g n k)
  ascending = (listing_holds_run_ups g n k below).1

  -- a first order that is found is a value order
  pub found_order : ltb 0 (length (first_order g n k)) ≡ true → ValueOrder g k (first_order g n k)
  found_order h = let x = first_of_in (tally n g.write) (run_ups g n k) (ltb-true _ _ h) in full_order (first_order g n k) (listed_is (first_order g n k) x.0) x.1

-- the listing gives the trials
pub listing_gives_trials : ListingGivesTrials
listing_gives_trials g n k below = record {
  listed = until many (run_ups g n k);
  number = refl;
  ascending = until_ascending many (run_ups g n k) (ascending g n k below);
  only = λ run i. (listed_is g n k below run (until_in many (run_ups g n k) run i), λ other v c. until_only many (run_ups g n k) (ascending g n k below) run other i (is_listed g n k below other v.run_up) (order_full g n k below other v) c);
  all = λ run r h. until_all many (run_ups g n k) (ascending g n k below) run (is_listed g n k below run r) (λ q i e c. h q (full_order g n k below q (listed_is g n k below q i) e) c);
}
  where
    many : ℕ
    many = tally n g.write

-- the first value order, if there is one
pub listing_gives_first : ListingGivesFirst
listing_gives_first g n k run below v =
    let x = first_of_is (tally n g.write) (run_ups g n k) (ascending g n k below) run (is_listed g n k below run v.run_up) (order_full g n k below run v) in
    record {
      order = full_order g n k below (first_order g n k) (listed_is g n k below (first_order g n k) x.within) x.full;
      unbeaten = λ other o c. x.unbeaten other (is_listed g n k below other o.run_up) (order_full g n k below other o) c;
    }

-- the first from k on, if one that passes is tried
record FirstFrom (f : ℕ → Bool) (k t : ℕ) : Type 0 where
  from : k ≤ t
  passes : f t ≡ true
  none : (j : ℕ) → k ≤ j → j < t → f j ≡ false

-- it is what the search gives
first_from_is : (f : ℕ → Bool) (more k last : ℕ) → k ≤ last → last ≤ k + more → f last ≡ true → FirstFrom f k (first_from f more k)
first_from_is f zero k last l h e = let s : last ≡ k = omega arith in record { from = omega arith; passes = rw s at e; none = λ j a c. absurd (omega arith) }
first_from_is f (suc more) k last l h e = go (f k) refl (cases_eq k last) (λ m. first_from_is f more (suc k) last m (omega arith) e)
  where
    go : (c : Bool) → f k ≡ c → ((k ≡ last) ⊎ (k ≡ last → ⊥)) → (suc k ≤ last → FirstFrom f (suc k) (first_from f more (suc k))) → FirstFrom f k (cond c k (first_from f more (suc k)))
    go true c s later = record { from = omega arith; passes = c; none = λ j a d. absurd (omega arith) }
    go false c (inl s) later = absurd (true≢false (sym e ∙ ap f (sym s) ∙ c))
    go false c (inr s) later = let m = later (omega arith) in record { from = omega (arith, m.from); passes = m.passes; none = λ j a d. none m j a d (cases_eq k j) }
      where
        none : FirstFrom f (suc k) (first_from f more (suc k)) → (j : ℕ) → k ≤ j → j < first_from f more (suc k) → ((k ≡ j) ⊎ (k ≡ j → ⊥)) → f j ≡ false
        none m j a d (inl t) = ap f (sym t) ∙ c
        none m j a d (inr t) = m.none j (omega arith) d

-- the trials up to k
trials_up_to_is : (g : Graph) (n k : ℕ) → Below g n → TrialsUpTo g k (trials_up_to g n k)
trials_up_to_is g n zero below = refl
trials_up_to_is g n (suc k) below = (trials_up_to g n k, trials g n (suc k), trials_up_to_is g n k below, listing_gives_trials g n (suc k) below, refl)

-- and what trying comes to
pub listing_gives_tried : ListingGivesTried
listing_gives_tried g n run below v =
    let t = first_from_is found many 1 many (omega (arith, order_full g n many below run v, v.run_up.some)) (omega arith) (is_found many run v) in
    record {
      from_one = t.from;
      none_below = λ j a d other o. true≢false (sym (is_found j other o) ∙ t.none j a d);
      first = listing_gives_first g n _ _ below (found_order g n _ below t.passes);
      trials = trials_up_to_is g n _ below;
    }
  where
    many : ℕ
    many = tally n g.write

    found : ℕ → Bool
    found k = ltb 0 (length (first_order g n k))

    is_found : (k : ℕ) (run : List ℕ) → ValueOrder g k run → found k ≡ true
    is_found k run v = lt-ltb _ _ (listing_gives_first g n k run below v).order.run_up.some

-- trying a bay with a write comes to what the listing gives
pub bay_is_tried : BayIsTried
bay_is_tried ops b w j hw = let v = trying_ends ops b w j hw in listing_gives_tried (bay_graph ops b) (length ops) v.0 (λ p h. (writing ops b p h).below) v.1
