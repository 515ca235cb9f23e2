-- Faults said by the write that an operation has. Assumes nothing.
use Rattle.std.proofs.Common.{◌≡◌, ℕ, ◌<◌, ◌≤◌, Bool, true, false, not, ◌&&◌, eqb, ltb, List, length, sym, refl, ap, ◌∙◌, ap₂, arith}
use Rattle.std.proofs.lemmas.List.{get_or_past}
use Rattle.std.proofs.lemmas.Bool.{eqb-true, le-ltb, and_parts}
use Rattle.orders.specs.Orders.{Operation, nothing, at, before, write_of, of_bay}
use Rattle.bays.specs.Faults.{written_twice, unwritten, foreseen, faulty}
use Rattle.bays.proofs.Faulty.{part_true, part_false, some_write}

-- what a test of the bay with another says of the bay
pub in_bay : (x b : ℕ) (w : Bool) {r : Bool} → r ≡ (eqb x b && w) → r ≡ true → x ≡ b
in_bay x b w f t = eqb-true x b (and_parts (eqb x b) w (sym f ∙ t)).0

-- what a test says of the operation that it was made of
pub tested : (test : Operation → Bool) {w v : Operation} {r t : Bool} → w ≡ v → r ≡ test w → r ≡ t → test v ≡ t
tested test e f h = ap test (sym e) ∙ sym f ∙ h

module _ (ops : List Operation) (b p : ℕ) (o : Operation) (here : o ≡ at ops p) where
  -- a write of the bay has its value twice where the first write of it stands earlier
  module _ (e : (of_bay b o && o.write) ≡ true) (h : p < length ops) where
    twice_test : faulty (of_bay b) written_twice ops p ≡ ltb (write_of ops (at ops p)) p
    twice_test = part_true (of_bay b (at ops p)) (at ops p).write _ (ap (λ q. of_bay b q && q.write) (sym here) ∙ e) ∙ some_write ops (at ops p) p (omega arith)

    pub twice_some : {first : ℕ} → first ≡ write_of ops o → ltb first p ≡ faulty (of_bay b) written_twice ops p
    twice_some f = ap (λ q. ltb q p) (f ∙ ap (write_of ops) here) ∙ sym twice_test

    pub twice_none : length ops ≤ write_of ops o → false ≡ faulty (of_bay b) written_twice ops p
    twice_none l = sym (le-ltb (write_of ops o) p (omega arith)) ∙ twice_some refl

  -- a read of the bay is foreseen where it is before that write
  module _ (e : (of_bay b o && not o.write) ≡ true) where
    pub foreseen_some : {w : Operation} {place : ℕ} → place ≡ write_of ops o → w ≡ at ops place → before o w ≡ faulty (of_bay b) foreseen ops p
    foreseen_some f w = ap₂ before here (w ∙ ap (at ops) (f ∙ ap (write_of ops) here)) ∙ sym (part_true (of_bay b (at ops p)) (not (at ops p).write) _ (ap (λ q. of_bay b q && not q.write) (sym here) ∙ e))

    pub foreseen_none : length ops ≤ write_of ops o → false ≡ faulty (of_bay b) foreseen ops p
    foreseen_none l = sym (le-ltb o.finish 0 (omega arith)) ∙ foreseen_some refl (sym (get_or_past ops (write_of ops o) nothing l))

  -- another operation has no such fault
  pub twice_not : (of_bay b o && o.write) ≡ false → false ≡ faulty (of_bay b) written_twice ops p
  twice_not e = sym (part_false (of_bay b (at ops p)) (at ops p).write _ (ap (λ q. of_bay b q && q.write) (sym here) ∙ e))

  pub unwritten_not : (of_bay b o && not o.write) ≡ false → false ≡ faulty (of_bay b) unwritten ops p
  unwritten_not e = sym (part_false (of_bay b (at ops p)) (not (at ops p).write) _ (ap (λ q. of_bay b q && not q.write) (sym here) ∙ e))

  pub foreseen_not : (of_bay b o && not o.write) ≡ false → false ≡ faulty (of_bay b) foreseen ops p
  foreseen_not e = sym (part_false (of_bay b (at ops p)) (not (at ops p).write) _ (ap (λ q. of_bay b q && not q.write) (sym here) ∙ e))
