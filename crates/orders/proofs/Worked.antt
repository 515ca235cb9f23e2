-- The worked cases hold. Assumes nothing.
use Rattle.std.proofs.Common.{◌≡◌, ℕ, ◌<◌, Bool, true, false, cond, not, ◌&&◌, ◌||◌, eqb, ltb, leb, List, [], length, refl, ap, inl, inr, arith}
use Rattle.std.proofs.lemmas.Bool.{eqb-true, ltb-true, leb-true, and_parts, and_from, not-true}
use Rattle.orders.specs.Places.{tally, every, some}
use Rattle.orders.specs.RunUps.{Tried}
use Rattle.orders.specs.Orders.{Operation, at, before, alike, write_of, writes, of_bay, among, bay_graph}
use Rattle.orders.specs.Listing.{first_order, tried_age, tried_trials, tried_order}
use Rattle.orders.specs.Claims.{Judgeable, a_read}
use Rattle.orders.specs.Cases.{Holds, judged, CasesHold}
use Rattle.orders.proofs.Counts.{imply, every_is}
use Rattle.orders.proofs.Operations.{writing, below_among}
use Rattle.orders.proofs.LeastAges.{unread_is_least_age, bay_age}
use Rattle.orders.proofs.Judged.{found_order, listing_gives_tried}

-- what is assumed of a judged bay, as a test at one place
abbrev timed : List Operation → ℕ → Bool
timed ops p = leb (at ops p).start (at ops p).finish

-- of one place and another
abbrev distinct : List Operation → ℕ → ℕ → Bool
distinct ops u v = not ((at ops u).write && ((at ops v).write && alike (at ops u) (at ops v))) || eqb u v

-- of a read with its write
abbrev sourced : List Operation → ℕ → Bool
sourced ops r = not (not (at ops r).write) || (ltb (write_of ops (at ops r)) (length ops) && not (before (at ops r) (at ops (write_of ops (at ops r)))))

-- of all places
abbrev judgeable : List Operation → Bool
judgeable ops = every (length ops) (λ p. timed ops p && (sourced ops p && every (length ops) (distinct ops p)))

-- what the test says
judgeable_is : (ops : List Operation) (b : ℕ) → judgeable ops ≡ true → Judgeable ops (of_bay b)
judgeable_is ops b h = record {
  timed = λ p l. leb-true _ _ (and_parts _ _ (each p l)).0;
  distinct = λ u v hu hv wu wv s. eqb-true _ _ (imply _ _ (every_is n (distinct ops u) (and_parts _ _ (and_parts (timed ops u) _ (each u (below_among ops (of_bay b) u hu))).1).1 v (below_among ops (of_bay b) v hv)) (and_from _ _ wu (and_from _ _ wv s)));
  sourced = λ r i e. ltb-true _ _ (and_parts _ _ (source r i e)).0;
  unforeseen = λ r i e. not-true _ (and_parts _ _ (source r i e)).1;
}
  where
    n : ℕ
    n = length ops

    each : (p : ℕ) → p < n → (timed ops p && (sourced ops p && every n (distinct ops p))) ≡ true
    each p l = every_is n (λ p. timed ops p && (sourced ops p && every n (distinct ops p))) h p l

    source : (r : ℕ) → among ops (of_bay b) r ≡ true → (at ops r).write ≡ false → (ltb (write_of ops (at ops r)) n && not (before (at ops r) (at ops (write_of ops (at ops r))))) ≡ true
    source r i e = imply (not (at ops r).write) _ (and_parts _ _ (and_parts (timed ops r) _ (each r (below_among ops (of_bay b) r i))).1).0 (ap not e)

module _ (ops : List Operation) where
  -- how many writes the bay has
  abbrev many : ℕ
  many = tally (length ops) (writes ops 3)

  -- a case with a write
  tried_case : judgeable ops ≡ true → ltb 0 (length (first_order (bay_graph ops 3) (length ops) many)) ≡ true → Holds ops (judged (cond (some (length ops) (a_read ops 3)) (tried_age (bay_graph ops 3) (length ops)) 0) (tried_trials (bay_graph ops 3) (length ops)) (tried_order (bay_graph ops 3) (length ops)))
  tried_case fit found = (inr (tried_age (bay_graph ops 3) (length ops), tried, refl), bay_age ops 3 _ _ _ (judgeable_is ops 3 fit) tried)
    where
      tried : Tried (bay_graph ops 3) (tried_age (bay_graph ops 3) (length ops)) (tried_trials (bay_graph ops 3) (length ops)) (tried_order (bay_graph ops 3) (length ops))
      tried = listing_gives_tried (bay_graph ops 3) (length ops) _ (λ p h. (writing ops 3 p h).below) (found_order (bay_graph ops 3) (length ops) many (λ p h. (writing ops 3 p h).below) found)

-- the case with no operations
empty_case : Holds [] (judged 0 0 [])
empty_case = (inl (λ p h. (let l = (writing [] 3 p h).below in omega arith), refl, refl, refl), unread_is_least_age [] 3 (λ p l. absurd (omega arith)) (λ p h. (let l = below_among [] (of_bay 3) p h in absurd (omega arith))))

-- each line of the table holds
pub cases_hold : CasesHold
cases_hold = (empty_case, (tried_case _ refl refl, (tried_case _ refl refl, (tried_case _ refl refl, (tried_case _ refl refl, (tried_case _ refl refl, (tried_case _ refl refl, (tried_case _ refl refl, (tried_case _ refl refl, (tried_case _ refl refl, (tried_case _ refl refl, ((refl, refl, refl), tt))))))))))))
