-- The faults of an operation, from the ranks of the writes of its value. Assumes nothing.
use Rattle.std.proofs.Common.{◌≡◌, ℕ, ◌<◌, ◌≤◌, Bool, true, false, not, ◌&&◌, ltb, ◌⊎◌, List, length, get_or, is_some as option_is_some, Some, None, Option, sym, refl, ap, ◌∙◌, inl, inr, arith}
use Rattle.std.proofs.lemmas.List.{get_or_past}
use Rattle.std.proofs.lemmas.Bool.{cases_lt, eqb-true, eq-eqb, lt-ltb, le-ltb, and_parts, and_from, both_ways}
use Rattle.orders.specs.Orders.{Operation, nothing, at, before, alike, write_of, writes, of_bay}
use Rattle.orders.specs.Places.{some}
use Rattle.orders.proofs.Counts.{some_is, is_some}
use Rattle.orders.proofs.Operations.{like, write_of_is, write_of_le, writing, written}
use Rattle.bays.specs.Faults.{written_twice, unwritten, foreseen, faulty, Lowest}
use Rattle.bays.specs.Writes.{passing, write_places}
use Rattle.bays.proofs.Passing.{none_some, passing_is, passing_has}
use Rattle.bays.proofs.Ranks.{ranked_none, ranked_some}

pub part_false : (a w t : Bool) → (a && w) ≡ false → (a && (w && t)) ≡ false
part_false true true t e = absurd (both_ways true e refl)
part_false true false t e = refl
part_false false w t e = refl

pub part_true : (a w t : Bool) → (a && w) ≡ true → (a && (w && t)) ≡ t
part_true true true t e = refl
part_true true false t e = absurd (both_ways false refl e)
part_true false w t e = absurd (both_ways false refl e)

-- some write below n is like an operation exactly when the first such write stands there
pub some_write : (ops : List Operation) (o : Operation) (n : ℕ) → n ≤ length ops → some n (λ q. (at ops q).write && alike (at ops q) o) ≡ ltb (write_of ops o) n
some_write ops o n h = go (cases_lt (write_of ops o) n) (some n test) refl
  where
    test : ℕ → Bool
    test q = (at ops q).write && alike (at ops q) o

    go : ((write_of ops o < n) ⊎ (n ≤ write_of ops o)) → (t : Bool) → some n test ≡ t → some n test ≡ ltb (write_of ops o) n
    go (inl lt) t e = let w = write_of_is ops o (omega arith) in is_some n test (write_of ops o) lt (and_from _ _ w.0 w.1) ∙ sym (lt-ltb _ _ lt)
    go (inr le) true e =
        let x = some_is n test e in
        let y = and_parts (at ops x.0).write (alike (at ops x.0) o) x.2 in
        let first : write_of ops o ≤ x.0 = write_of_le ops o x.0 (omega (arith, h, x.1)) y.0 y.1 in
        absurd (omega (arith, x.1))
    go (inr le) false e = e ∙ sym (le-ltb _ _ le)

-- some write of bay b below n has the operation's value, exactly where some rank has
module _ (ops : List Operation) (b n : ℕ) (short : n ≤ length ops) (o : Operation) (in_bay : o.bay ≡ b) where
  abbrev test : ℕ → Bool
  test q = (at ops q).write && alike (at ops q) o

  ranked_write : (r : Option ℕ) → Lowest (length (passing n (writes ops b))) (λ i. alike (at ops (get_or (passing n (writes ops b)) i 0)) o) r → some n test ≡ option_is_some r
  ranked_write (Some i) l =
      let x = passing_is n (writes ops b) i l.0 in
      is_some n test (get_or (passing n (writes ops b)) i 0) x.0 (and_from _ _ (writing ops b _ x.1).write l.1)
  ranked_write None l = none_some n test (λ q k. go q k (test q) refl)
    where
      go : (q : ℕ) → q < n → (t : Bool) → test q ≡ t → test q ≡ false
      go q k true t =
          let y = and_parts (at ops q).write (alike (at ops q) o) t in
          let x = passing_has n (writes ops b) q k (written ops b q (record { below = omega arith; write = y.0; bay = (like (at ops q) o y.1).bays ∙ in_bay })) in
          absurd (both_ways _ (l x.0 x.1) (ap (λ place. alike (at ops place) o) x.2 ∙ y.1))
      go q k false t = t

module _ (ops : List Operation) (b p : ℕ) (h : p < length ops) where
  -- a write of the bay has its value twice where some rank below has it
  module _ (e : (of_bay b (at ops p) && (at ops p).write) ≡ true) where
    pub twice_ranked : (r : Option ℕ) → Lowest (length (passing p (writes ops b))) (λ i. alike (at ops (get_or (passing p (writes ops b)) i 0)) (at ops p)) r → faulty (of_bay b) written_twice ops p ≡ option_is_some r
    twice_ranked r l =
        part_true (of_bay b (at ops p)) (at ops p).write _ e
        ∙ ranked_write ops b p (omega arith) (at ops p) (eqb-true (at ops p).bay b (and_parts (of_bay b (at ops p)) (at ops p).write e).0) r l

  -- and where the first write of it stands earlier
  pub twice_first : writes ops b p ≡ true → faulty (of_bay b) written_twice ops p ≡ ltb (write_of ops (at ops p)) p
  twice_first e =
      let w = writing ops b p e in
      part_true (of_bay b (at ops p)) (at ops p).write _ (and_from _ _ (eq-eqb (at ops p).bay b w.bay) w.write) ∙ some_write ops (at ops p) p (omega arith)

  pub twice_not : (of_bay b (at ops p) && (at ops p).write) ≡ false → faulty (of_bay b) written_twice ops p ≡ false
  twice_not e = part_false (of_bay b (at ops p)) (at ops p).write _ e

  module _ (e : (of_bay b (at ops p) && not (at ops p).write) ≡ true) where
    in_bay : (at ops p).bay ≡ b
    in_bay = eqb-true (at ops p).bay b (and_parts (of_bay b (at ops p)) (not (at ops p).write) e).0

    -- a read of the bay is unwritten where no rank has its value
    pub unwritten_ranked : (r : Option ℕ) → Lowest (length (write_places ops b)) (λ i. alike (at ops (get_or (write_places ops b) i 0)) (at ops p)) r → faulty (of_bay b) unwritten ops p ≡ not (option_is_some r)
    unwritten_ranked r l = part_true (of_bay b (at ops p)) (not (at ops p).write) _ e ∙ ap not (ranked_write ops b (length ops) (omega arith) (at ops p) in_bay r l)

    -- and foreseen where it is before the write of its rank
    pub foreseen_some : (i : ℕ) → Lowest (length (write_places ops b)) (λ i. alike (at ops (get_or (write_places ops b) i 0)) (at ops p)) (Some i) → faulty (of_bay b) foreseen ops p ≡ before (at ops p) (at ops (get_or (write_places ops b) i 0))
    foreseen_some i l =
        part_true (of_bay b (at ops p)) (not (at ops p).write) _ e
        ∙ ap (λ place. before (at ops p) (at ops place)) (sym (ranked_some ops b (at ops p) in_bay i l))

    pub foreseen_none : Lowest (length (write_places ops b)) (λ i. alike (at ops (get_or (write_places ops b) i 0)) (at ops p)) None → faulty (of_bay b) foreseen ops p ≡ false
    foreseen_none l =
        part_true (of_bay b (at ops p)) (not (at ops p).write) _ e
        ∙ ap (before (at ops p)) (get_or_past ops (write_of ops (at ops p)) nothing (ranked_none ops b (at ops p) in_bay l))
        ∙ le-ltb (at ops p).finish 0 (omega arith)

  pub unwritten_not : (of_bay b (at ops p) && not (at ops p).write) ≡ false → faulty (of_bay b) unwritten ops p ≡ false
  unwritten_not e = part_false (of_bay b (at ops p)) (not (at ops p).write) _ e

  pub foreseen_not : (of_bay b (at ops p) && not (at ops p).write) ≡ false → faulty (of_bay b) foreseen ops p ≡ false
  foreseen_not e = part_false (of_bay b (at ops p)) (not (at ops p).write) _ e
