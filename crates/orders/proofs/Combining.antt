-- Lawful orders of the bays combine: by the latest start so far in the bay's order. Assumes nothing.
use Rattle.std.proofs.Common.{◌≡◌, ℕ, ◌<◌, ◌≤◌, Bool, true, false, cond, ◌&&◌, eqb, leb, ◌⊎◌, List, length, sym, refl, ap, ◌∙◌, inl, inr, le_antisymm, arith}
use Rattle.std.proofs.lemmas.Bool.{cases_eq, cases_lt, cases_order, eqb-true, eq-eqb, ltb-true, lt-ltb, leb-true, le-leb, and_parts, and_from}
use Rattle.orders.specs.Places.{top, position, Earlier}
use Rattle.orders.specs.Orders.{Operation, at, write_of, whole, of_bay, among, Timed, Lawful, age, largest_age}
use Rattle.orders.specs.Claims.{BaysCombine}
use Rattle.orders.proofs.Counts.{le_top, top_le}
use Rattle.orders.proofs.Sorted.{pair, pair_first, pair_second, pair_same, arrange, times_arranged, arranged_earlier}
use Rattle.orders.proofs.Operations.{Inside, below_among, whole_among, writing, within, is_within}
use Rattle.orders.proofs.Ages.{stands_same, earlier_held, age_largest, largest_le, age_le, Between}

-- x is of the bay of p and stands no later than p
abbrev so_far : List Operation → (ℕ → List ℕ) → ℕ → ℕ → Bool
so_far ops each p x = eqb (at ops x).bay (at ops p).bay && leb (position (each (at ops p).bay) x) (position (each (at ops p).bay) p)

-- the latest start of these
abbrev point : List Operation → (ℕ → List ℕ) → ℕ → ℕ
point ops each p = top (length ops) (λ x. cond (so_far ops each p x) (at ops x).start 0)

-- where p stands in the order of its bay
abbrev index : List Operation → (ℕ → List ℕ) → ℕ → ℕ
index ops each p = position (each (at ops p).bay) p

module _ (ops : List Operation) (bays : ℕ) (each : ℕ → List ℕ) (timed : Timed ops) (few : (p : ℕ) → p < length ops → (at ops p).bay < bays) (law : (b : ℕ) → b < bays → Lawful ops (of_bay b) (each b)) where
  mine : (p : ℕ) → p < length ops → among ops (of_bay (at ops p).bay) p ≡ true
  mine p l = is_within ops (at ops p).bay p (record { below = l; bay = refl })

  -- a start so far is at most the latest
  start_le : (p x : ℕ) → x < length ops → (at ops x).bay ≡ (at ops p).bay → position (each (at ops p).bay) x ≤ index ops each p → (at ops x).start ≤ point ops each p
  start_le p x l b i =
      let t : so_far ops each p x ≡ true = and_from _ _ (eq-eqb _ _ b) (le-leb _ _ i) in
      let m : cond (so_far ops each p x) (at ops x).start 0 ≤ point ops each p = le_top (length ops) (λ x. cond (so_far ops each p x) (at ops x).start 0) x l in
      rw t at m

  -- the latest is at most what each start so far is at most
  point_most : (p m : ℕ) → ((x : ℕ) → x < length ops → (at ops x).bay ≡ (at ops p).bay → position (each (at ops p).bay) x ≤ index ops each p → (at ops x).start ≤ m) → point ops each p ≤ m
  point_most p m h = top_le (length ops) (λ x. cond (so_far ops each p x) (at ops x).start 0) m (λ x l. one x l (so_far ops each p x) refl)
    where
      one : (x : ℕ) → x < length ops → (c : Bool) → so_far ops each p x ≡ c → cond (so_far ops each p x) (at ops x).start 0 ≤ m
      one x l false e = rw e (omega arith)
      one x l true e = let u = and_parts _ _ e in rw e (h x l (eqb-true _ _ u.0) (leb-true _ _ u.1))

  point_ge : (p : ℕ) → p < length ops → (at ops p).start ≤ point ops each p
  point_ge p l = start_le p p l refl (omega arith)

  point_le : (p : ℕ) → p < length ops → point ops each p ≤ (at ops p).finish
  point_le p l = point_most p _ (λ x m b i. go x m b i (cases_lt (at ops p).finish (at ops x).start))
    where
      go : (x : ℕ) → x < length ops → (at ops x).bay ≡ (at ops p).bay → position (each (at ops p).bay) x ≤ index ops each p → (((at ops p).finish < (at ops x).start) ⊎ ((at ops x).start ≤ (at ops p).finish)) → (at ops x).start ≤ (at ops p).finish
      go x m b i (inr k) = k
      go x m b i (inl k) = absurd (omega (arith, (law (at ops p).bay (few p l)).timely p x (mine p l) (is_within ops (at ops p).bay x (record { below = m; bay = b })) (lt-ltb _ _ k)))

  -- within a bay the points do not fall
  point_up : (a c : ℕ) → (at ops a).bay ≡ (at ops c).bay → position (each (at ops c).bay) a ≤ index ops each c → point ops each a ≤ point ops each c
  point_up a c b i = point_most a _ (λ x m s j. start_le c x m (s ∙ b) (let k : position (each (at ops c).bay) x ≤ position (each (at ops c).bay) a = rw b at j in omega arith))

  abbrev key : ℕ → ℕ
  key p = pair (length ops) (point ops each) (pair (length ops) (λ x. (at ops x).bay) (index ops each)) p

  below : (p : ℕ) → among ops whole p ≡ true → p < length ops
  below p h = below_among ops whole p h

  differ : (a c : ℕ) → among ops whole a ≡ true → among ops whole c ≡ true → key a ≡ key c → a ≡ c
  differ a c ha hc e =
      let la = below a ha in
      let lc = below c hc in
      let t = pair_same (length ops) (λ x. (at ops x).bay) (index ops each) a c la lc (pair_same (length ops) (point ops each) _ a c la lc e).1 in
      stands_same (law (at ops a).bay (few a la)) a c (mine a la) (t.1 ∙ ap (λ b. position (each b) c) (sym t.0))

  abbrev order : List ℕ
  order = arrange key (among ops whole) (length ops)

  by_key : (a c : ℕ) → a < length ops → c < length ops → key a < key c → Earlier order a c
  by_key a c la lc lt = arranged_earlier (length ops) (among ops whole) key below differ a c (whole_among ops a la) (whole_among ops c lc) lt

  by_point : (a c : ℕ) → a < length ops → c < length ops → point ops each a < point ops each c → Earlier order a c
  by_point a c la lc lt = by_key a c la lc (pair_first (length ops) (point ops each) _ a c la lt)

  -- within a bay the order is that of the bay
  from_bay : (a c : ℕ) → a < length ops → c < length ops → (at ops a).bay ≡ (at ops c).bay → Earlier (each (at ops c).bay) a c → Earlier order a c
  from_bay a c la lc b lt = go (cases_eq (point ops each a) (point ops each c))
    where
      go : ((point ops each a ≡ point ops each c) ⊎ (point ops each a ≡ point ops each c → ⊥)) → Earlier order a c
      go (inl e) = by_key a c la lc (pair_second (length ops) (point ops each) _ a c e (pair_second (length ops) (λ x. (at ops x).bay) (index ops each) a c b (omega (arith, ap (λ d. position (each d) a) b))))
      go (inr e) = by_point a c la lc (omega (arith, point_up a c b (omega arith)))

  to_bay : (a c : ℕ) → a < length ops → c < length ops → (at ops a).bay ≡ (at ops c).bay → Earlier order a c → Earlier (each (at ops c).bay) a c
  to_bay a c la lc b lt = go (cases_order (position o a) (position o c))
    where
      o : List ℕ
      o = each (at ops c).bay

      go : ((position o a ≡ position o c) ⊎ ((position o a < position o c) ⊎ (position o c < position o a))) → position o a < position o c
      go (inl e) = absurd (omega (arith, ap (position order) (stands_same (law (at ops c).bay (few c lc)) c a (mine c lc) (sym e))))
      go (inr (inl e)) = e
      go (inr (inr e)) = absurd (omega (arith, from_bay c a lc la (sym b) (rw b e)))

  -- the write of a read stands in the order of its bay
  record Source (r : ℕ) : Type 0 where
    inside : Inside ops (at ops r).bay (write_of ops (at ops r))
    earlier : Earlier (each (at ops r).bay) (write_of ops (at ops r)) r

  source : (r : ℕ) → r < length ops → (at ops r).write ≡ false → Source r
  source r l e =
      let f = (law (at ops r).bay (few r l)).fed r (mine r l) e in
      record { inside = within ops (at ops r).bay (write_of ops (at ops r)) (earlier_held (law (at ops r).bay (few r l)) (write_of ops (at ops r)) r f); earlier = f }

  lawful : Lawful ops whole order
  lawful = record {
    once = times_arranged (length ops) (among ops whole) key below differ;
    timely = λ a c ha hc lt. by_point a c (below a ha) (below c hc) (omega (arith, point_le a (below a ha), point_ge c (below c hc), ltb-true _ _ lt));
    fed = λ r h e. (let s = source r (below r h) e in from_bay (write_of ops (at ops r)) r s.inside.below (below r h) s.inside.bay s.earlier);
  }

  -- so the ages are the same
  age_same : (r : ℕ) → r < length ops → (at ops r).write ≡ false → age ops order r ≡ age ops (each (at ops r).bay) r
  age_same r l e = le_antisymm (age_le ops order (each (at ops r).bay) r down) (age_le ops (each (at ops r).bay) order r up)
    where
      s : Source r
      s = source r l e

      down : (p : ℕ) → Between ops order r p → Between ops (each (at ops r).bay) r p
      down p x =
          let w = writing ops (at ops r).bay p x.write in
          let after = to_bay (write_of ops (at ops r)) p s.inside.below w.below (s.inside.bay ∙ sym w.bay) x.after in
          record { write = x.write; after = rw w.bay at after; ahead = to_bay p r w.below l w.bay x.ahead }

      up : (p : ℕ) → Between ops (each (at ops r).bay) r p → Between ops order r p
      up p x =
          let w = writing ops (at ops r).bay p x.write in
          record { write = x.write; after = from_bay (write_of ops (at ops r)) p s.inside.below w.below (s.inside.bay ∙ sym w.bay) (rw w.bay x.after); ahead = from_bay p r w.below l w.bay x.ahead }

  largest : largest_age ops whole order ≡ top bays (λ b. largest_age ops (of_bay b) (each b))
  largest = le_antisymm (largest_le ops whole order _ le) (top_le bays _ _ (λ b m. largest_le ops (of_bay b) (each b) _ (ge b)))
    where
      le : (r : ℕ) → among ops whole r ≡ true → (at ops r).write ≡ false → age ops order r ≤ top bays (λ b. largest_age ops (of_bay b) (each b))
      le r h e = let l = below r h in omega (arith, age_same r l e, age_largest ops (of_bay (at ops r).bay) (each (at ops r).bay) r (mine r l) e, le_top bays (λ b. largest_age ops (of_bay b) (each b)) (at ops r).bay (few r l))

      ge : (b r : ℕ) → among ops (of_bay b) r ≡ true → (at ops r).write ≡ false → age ops (each b) r ≤ largest_age ops whole order
      ge b r h e =
          let i = within ops b r h in
          let s : age ops order r ≡ age ops (each b) r = age_same r i.below e ∙ ap (λ d. age ops (each d) r) i.bay in
          omega (arith, age_largest ops whole order r (whole_among ops r i.below) e)

-- lawful orders of the bays combine into one of all operations, whose largest age is the largest of theirs
pub bays_combine : BaysCombine
bays_combine ops bays each timed few law = (order ops bays each timed few law, lawful ops bays each timed few law, largest ops bays each timed few law)
