-- A lawful order restricts to each bay, with no larger age. Assumes nothing.
use Rattle.std.proofs.Common.{◌≡◌, ℕ, ◌<◌, ◌≤◌, Bool, true, false, cond, ◌⊎◌, List, refl, ap, ◌∙◌, inl, inr, le_trans, arith}
use Rattle.std.proofs.lemmas.Bool.{cases_order}
use Rattle.orders.specs.Places.{bit, times, position, Earlier}
use Rattle.orders.specs.Orders.{Operation, at, write_of, whole, of_bay, among, Lawful, age, largest_age}
use Rattle.orders.specs.Claims.{OrdersRestrict}
use Rattle.orders.proofs.Sequences.{keep, times_keep, keep_earlier}
use Rattle.orders.proofs.Operations.{in_whole, writing, within, is_within, write_within}
use Rattle.orders.proofs.Ages.{stands_same, fed_writes, age_largest, largest_le, age_le, Between}

module _ (ops : List Operation) (b : ℕ) (order : List ℕ) (law : Lawful ops whole order) where
  -- the operations of the bay, in the order
  abbrev part : List ℕ
  part = keep (among ops (of_bay b)) order

  once : (p : ℕ) → times p part ≡ bit (among ops (of_bay b) p)
  once p = times_keep (among ops (of_bay b)) order p ∙ one (among ops (of_bay b) p) refl
    where
      one : (c : Bool) → among ops (of_bay b) p ≡ c → cond (among ops (of_bay b) p) (times p order) 0 ≡ bit (among ops (of_bay b) p)
      one true e = rw e (law.once p ∙ ap bit (in_whole ops b p e))
      one false e = rw e

  -- they keep their order
  kept : (a c : ℕ) → among ops (of_bay b) a ≡ true → Earlier order a c → Earlier part a c
  kept a c ha lt = keep_earlier (among ops (of_bay b)) order a c ha lt

  -- the write of a read of the bay
  source_inside : (r : ℕ) → among ops (of_bay b) r ≡ true → (at ops r).write ≡ false → among ops (of_bay b) (write_of ops (at ops r)) ≡ true
  source_inside r h e = write_within ops b _ (fed_writes law r (in_whole ops b r h) e b h)

  lawful : Lawful ops (of_bay b) part
  lawful = record {
    once = once;
    timely = λ a c ha hc lt. kept a c ha (law.timely a c (in_whole ops b a ha) (in_whole ops b c hc) lt);
    fed = λ r h e. kept (write_of ops (at ops r)) r (source_inside r h e) (law.fed r (in_whole ops b r h) e);
  }

  -- and had it
  back : (a c : ℕ) → among ops (of_bay b) a ≡ true → among ops (of_bay b) c ≡ true → Earlier part a c → Earlier order a c
  back a c ha hc lt = go (cases_order (position order a) (position order c))
    where
      go : ((position order a ≡ position order c) ⊎ ((position order a < position order c) ⊎ (position order c < position order a))) → Earlier order a c
      go (inl e) = let t : position part a ≡ position part c = ap (position part) (stands_same law a c (in_whole ops b a ha) e) in absurd (omega arith)
      go (inr (inl e)) = e
      go (inr (inr e)) = absurd (omega (arith, kept c a hc e))

  age_part : (r : ℕ) → among ops (of_bay b) r ≡ true → (at ops r).write ≡ false → age ops part r ≤ age ops order r
  age_part r h e = age_le ops part order r each
    where
      each : (p : ℕ) → Between ops part r p → Between ops order r p
      each p x =
          let w = writing ops (at ops r).bay p x.write in
          let i = is_within ops b p (record { below = w.below; bay = w.bay ∙ (within ops b r h).bay }) in
          record { write = x.write; after = back (write_of ops (at ops r)) p (source_inside r h e) i x.after; ahead = back p r i h x.ahead }

  largest : largest_age ops (of_bay b) part ≤ largest_age ops whole order
  largest = largest_le ops (of_bay b) part _ (λ r h e. le_trans (age_part r h e) (age_largest ops whole order r (in_whole ops b r h) e))

-- a lawful order of all operations restricts to each bay, with no larger age
pub orders_restrict : OrdersRestrict
orders_restrict ops b order law = (part ops b order law, lawful ops b order law, largest ops b order law)
