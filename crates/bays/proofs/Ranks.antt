-- The writes of a bay by rank. Assumes nothing.
use Rattle.std.proofs.Common.{◌≡◌, ℕ, ◌<◌, ◌≤◌, Bool, true, ◌⊎◌, List, length, get_or, Some, None, sym, ap, ◌∙◌, subst, inl, inr, arith}
use Rattle.std.proofs.lemmas.Bool.{cases_lt, cases_order, both_ways}
use Rattle.orders.specs.Orders.{Operation, at, alike, writes, write_of, write_count}
use Rattle.orders.proofs.Operations.{like, write_of_is, write_of_le, writing, written}
use Rattle.bays.specs.Faults.{Lowest}
use Rattle.bays.specs.Writes.{write_places}
use Rattle.bays.proofs.Passing.{passing_length, passing_is, passing_has, passing_rising}

module _ (ops : List Operation) (b : ℕ) where
  -- there are as many places as the bay has writes,
  pub places_count : length (write_places ops b) ≡ write_count ops b
  places_count = passing_length (length ops) (writes ops b)

  -- each is below the length,
  pub place_below : (i : ℕ) → i < length (write_places ops b) → get_or (write_places ops b) i 0 < length ops
  place_below i h = (passing_is (length ops) (writes ops b) i h).0

  -- and the place of a write of the bay,
  pub place_writes : (i : ℕ) → i < length (write_places ops b) → writes ops b (get_or (write_places ops b) i 0) ≡ true
  place_writes i h = (passing_is (length ops) (writes ops b) i h).1

  -- no write of the bay is missing,
  pub write_listed : (p : ℕ) → writes ops b p ≡ true → (i : ℕ) × (i < length (write_places ops b)) × (get_or (write_places ops b) i 0 ≡ p)
  write_listed p h = passing_has (length ops) (writes ops b) p (writing ops b p h).below h

  -- and they ascend
  pub places_rising : (i j : ℕ) → i < j → j < length (write_places ops b) → get_or (write_places ops b) i 0 < get_or (write_places ops b) j 0
  places_rising i j l h = passing_rising (length ops) (writes ops b) i j l h

  -- so no two are one
  pub places_apart : (i j : ℕ) → i < length (write_places ops b) → j < length (write_places ops b) → (i ≡ j → ⊥) → get_or (write_places ops b) i 0 ≡ get_or (write_places ops b) j 0 → ⊥
  places_apart i j h l ne e = go (cases_order i j)
    where
      go : ((i ≡ j) ⊎ ((i < j) ⊎ (j < i))) → ⊥
      go (inl s) = ne s
      go (inr (inl lt)) = omega (arith, places_rising i j lt l)
      go (inr (inr gt)) = omega (arith, places_rising j i gt h)

module _ (ops : List Operation) (b : ℕ) (o : Operation) (in_bay : o.bay ≡ b) where
  -- whether the write of a rank has the operation's value
  abbrev same : ℕ → Bool
  same i = alike (at ops (get_or (write_places ops b) i 0)) o

  -- the first write of its value has a rank
  first_rank : write_of ops o < length ops → (i : ℕ) × (i < length (write_places ops b)) × (get_or (write_places ops b) i 0 ≡ write_of ops o) × (same i ≡ true)
  first_rank h =
      let w = write_of_is ops o h in
      let x = write_listed ops b (write_of ops o) (written ops b (write_of ops o) (record { below = h; write = w.0; bay = (like (at ops (write_of ops o)) o w.1).bays ∙ in_bay })) in
      (x.0, x.1, x.2, subst (λ p. alike (at ops p) o ≡ true) (sym x.2) w.1)

  -- where no rank has it, there is no such write
  pub ranked_none : Lowest (length (write_places ops b)) same None → length ops ≤ write_of ops o
  ranked_none none = go (cases_lt (write_of ops o) (length ops))
    where
      go : ((write_of ops o < length ops) ⊎ (length ops ≤ write_of ops o)) → length ops ≤ write_of ops o
      go (inl lt) = let x = first_rank lt in absurd (both_ways _ (none x.0 x.1) x.3)
      go (inr le) = le

  -- and the lowest rank that has it is that of the first such write
  pub ranked_some : (k : ℕ) → Lowest (length (write_places ops b)) same (Some k) → get_or (write_places ops b) k 0 ≡ write_of ops o
  ranked_some k l =
      let w = writing ops b (get_or (write_places ops b) k 0) (place_writes ops b k l.0) in
      let le = write_of_le ops o (get_or (write_places ops b) k 0) w.below w.write l.1 in
      let x = first_rank (omega (arith, w.below)) in
      go x le (cases_order x.0 k)
    where
      go : (x : (i : ℕ) × (i < length (write_places ops b)) × (get_or (write_places ops b) i 0 ≡ write_of ops o) × (same i ≡ true)) → write_of ops o ≤ get_or (write_places ops b) k 0 → ((x.0 ≡ k) ⊎ ((x.0 < k) ⊎ (k < x.0))) → get_or (write_places ops b) k 0 ≡ write_of ops o
      go x le (inl s) = ap (λ i. get_or (write_places ops b) i 0) (sym s) ∙ x.2
      go x le (inr (inl lt)) = absurd (both_ways _ (l.2 x.0 lt) x.3)
      go x le (inr (inr gt)) = absurd (omega (arith, places_rising ops b k x.0 gt x.1, x.2, le))
