-- When a lawful order exists: by start, each read behind its write. Assumes nothing.
use Rattle.std.proofs.Common.{◌≡◌, ℕ, ◌+◌, ◌*◌, ◌<◌, ◌≤◌, max, Bool, true, false, cond, not, eqb, List, length, refl, ap, ◌∙◌, arith}
use Rattle.std.proofs.lemmas.Bool.{ltb-true, ltb-false, and_parts}
use Rattle.orders.specs.Places.{bit, Earlier}
use Rattle.orders.specs.Orders.{Operation, at, before, write_of, of_bay, among, Lawful, Timed, Sourced, Unforeseen}
use Rattle.orders.specs.Claims.{ByBay, LawfulOrdersExist}
use Rattle.orders.proofs.Sorted.{pair, pair_first, pair_same, arrange, times_arranged, arranged_earlier}
use Rattle.orders.proofs.Operations.{among_from, below_among, like, write_of_is}
use Rattle.orders.proofs.Ages.{earlier_held}

-- the tick at which an operation is put: its start, but for a read no sooner than the start of its write
abbrev point : List Operation → ℕ → ℕ
point ops p = cond (at ops p).write (at ops p).start (max (at ops p).start (at ops (write_of ops (at ops p))).start)

-- and there the writes first
abbrev mark : List Operation → ℕ → ℕ
mark ops p = 2 * point ops p + bit (not (at ops p).write)

module _ (ops : List Operation) (held : Operation → Bool) (by-bay : ByBay held) (timed : Timed ops) (sourced : Sourced ops held) (unforeseen : Unforeseen ops held) where
  abbrev key : ℕ → ℕ
  key p = pair (length ops) (mark ops) (λ x. x) p

  below : (p : ℕ) → among ops held p ≡ true → p < length ops
  below p h = below_among ops held p h

  differ : (a c : ℕ) → among ops held a ≡ true → among ops held c ≡ true → key a ≡ key c → a ≡ c
  differ a c ha hc e = (pair_same (length ops) (mark ops) (λ x. x) a c (below a ha) (below c hc) e).1

  abbrev order : List ℕ
  order = arrange key (among ops held) (length ops)

  by_mark : (a c : ℕ) → among ops held a ≡ true → among ops held c ≡ true → mark ops a < mark ops c → Earlier order a c
  by_mark a c ha hc lt = arranged_earlier (length ops) (among ops held) key below differ a c ha hc (pair_first (length ops) (mark ops) (λ x. x) a c (below a ha) lt)

  -- the point lies within the operation
  point_ge : (p : ℕ) → (at ops p).start ≤ point ops p
  point_ge p = one (at ops p).write
    where
      one : (c : Bool) → (at ops p).start ≤ cond c (at ops p).start (max (at ops p).start (at ops (write_of ops (at ops p))).start)
      one true = omega arith
      one false = omega arith

  point_le : (p : ℕ) → among ops held p ≡ true → point ops p ≤ (at ops p).finish
  point_le p h = one (at ops p).write refl
    where
      one : (c : Bool) → (at ops p).write ≡ c → point ops p ≤ (at ops p).finish
      one true e = rw e (timed p (below p h))
      one false e = rw e (omega (arith, ltb-false _ _ (unforeseen p h e), timed p (below p h)))

  mark_le : (p : ℕ) → mark ops p ≤ 2 * point ops p + 1
  mark_le p = one (at ops p).write
    where
      one : (c : Bool) → 2 * point ops p + bit (not c) ≤ 2 * point ops p + 1
      one true = omega arith
      one false = omega arith

  fed : (r : ℕ) → among ops held r ≡ true → (at ops r).write ≡ false → Earlier order (write_of ops (at ops r)) r
  fed r h e =
      let v = write_of ops (at ops r) in
      let w = write_of_is ops (at ops r) (sourced r h e) in
      let mark-v : mark ops v ≡ 2 * (at ops v).start + 0 = rw w.0 in
      let mark-r : mark ops r ≡ 2 * max (at ops r).start (at ops v).start + 1 = rw e in
      by_mark v r (among_from ops held v (sourced r h e) (by-bay (at ops v) (at ops r) (like (at ops v) (at ops r) w.1).bays ∙ (and_parts _ _ h).1)) h (omega arith)

  lawful : Lawful ops held order
  lawful = record {
    once = times_arranged (length ops) (among ops held) key below differ;
    timely = λ a c ha hc lt. by_mark a c ha hc (omega (arith, mark_le a, point_le a ha, point_ge c, ltb-true _ _ lt));
    fed = fed;
  }

  -- where every read has a write, and none is before it, there is a lawful order
  pub lawful_order : (order : List ℕ) × Lawful ops held order
  lawful_order = (order, lawful)

-- the bay has a lawful order
pub bay_order : (ops : List Operation) (b : ℕ) → Timed ops → Sourced ops (of_bay b) → Unforeseen ops (of_bay b) → (order : List ℕ) × Lawful ops (of_bay b) order
bay_order ops b timed sourced unforeseen = lawful_order ops (of_bay b) (λ x y e. ap (λ d. eqb d b) e) timed sourced unforeseen

module _ {ops : List Operation} {held : Operation → Bool} {order : List ℕ} (law : Lawful ops held order) where
  -- in a lawful order every read has a write
  pub lawful_sourced : Sourced ops held
  lawful_sourced r h e = below_among ops held (write_of ops (at ops r)) (earlier_held law (write_of ops (at ops r)) r (law.fed r h e))

  -- and none is before it
  pub lawful_unforeseen : Unforeseen ops held
  lawful_unforeseen r h e = go (before (at ops r) (at ops (write_of ops (at ops r)))) refl
    where
      go : (c : Bool) → before (at ops r) (at ops (write_of ops (at ops r))) ≡ c → before (at ops r) (at ops (write_of ops (at ops r))) ≡ false
      go false lt = lt
      go true lt =
          let f = law.fed r h e in
          absurd (omega (arith, law.timely r (write_of ops (at ops r)) h (earlier_held law (write_of ops (at ops r)) r f) lt))

-- a lawful order exists exactly when every read has a write, and none is before it
pub lawful_orders_exist : LawfulOrdersExist
lawful_orders_exist ops held by-bay timed = (λ o. (lawful_sourced o.1, lawful_unforeseen o.1), λ h. lawful_order ops held by-bay timed h.0 h.1)
