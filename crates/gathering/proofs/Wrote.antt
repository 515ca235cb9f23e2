-- The writes of a bay, one operation more at a time. Assumes nothing.
use Rattle.std.proofs.Common.{◌≡◌, ℕ, ◌+◌, ◌<◌, ◌≤◌, Bool, true, false, ◌&&◌, List, [], ◌∷◌, ◌++◌, length, get_or, is_some, Some, Ok, Option, sym, refl, ap, ◌∙◌, subst, add-one, arith}
use mathlib.Core.Bool.{and_comm}
use Rattle.std.specs.Option.{option_or}
use Rattle.std.proofs.lemmas.List.{length-map, length_push, map_push}
use Rattle.std.proofs.lemmas.Bool.{lt-ltb}
use Rattle.operations.proofs.Checks.{each_push}
use Rattle.orders.specs.Orders.{Operation, at, alike, writes, of_bay}
use Rattle.orders.specs.Places.{bit, tally}
use Rattle.bays.specs.Faults.{Lowest, faulty, written_twice}
use Rattle.bays.specs.Writes.{passing}
use Rattle.bays.proofs.Faulty.{twice_ranked, twice_not}
use Rattle.bays.proofs.Passing.{passing_yes, passing_no, passing_is, passing_length, tally_rising}
use Rattle.gathering.specs.Spans.{Span}
use Rattle.gathering.specs.Gathering.{Wrote}
use Rattle.gathering.specs.Writes.{unread, same_value, PlacesBelow, WriteAdded}
use Rattle.gathering.proofs.Lows.{lowest_yes, lowest_no, lowest_is}

pub wrote_none : (ops : List Operation) (b : ℕ) → Wrote ops b 0 []
wrote_none ops b = record { ranked = refl; few = omega arith; each = λ rank d h. absurd (omega arith) }

module _ (ops : List Operation) (b n : ℕ) (ws : List Span) (so_far : Wrote ops b n ws) where
  -- each stands below n
  pub wrote_below : PlacesBelow n ws
  wrote_below i h = subst (λ l. get_or l i 0 < n) (sym so_far.ranked) (passing_is n (writes ops b) i (omega (arith, length-map ws (λ w. w.place), ap length so_far.ranked))).0

  module _ (within : n < length ops) where
    -- whether the operation at n is a write of the bay
    writes_here : (t : Bool) → (of_bay b (at ops n) && (at ops n).write) ≡ t → writes ops b n ≡ t
    writes_here t e = ap (λ l. l && ((at ops n).write && of_bay b (at ops n))) (lt-ltb n (length ops) within) ∙ and_comm (at ops n).write (of_bay b (at ops n)) ∙ e

    module _ (e : (of_bay b (at ops n) && (at ops n).write) ≡ true) where
      pub wrote_yes : (is : List Span) → length ws < 64 → is ≡ ws ++ (unread ops n ∷ []) → Wrote ops b (n + 1) is
      wrote_yes is h s = subst (Wrote ops b (n + 1)) (sym s) (record {
        ranked = map_push (λ w. w.place) ws (unread ops n) ∙ ap (λ l. l ++ (n ∷ [])) so_far.ranked ∙ sym (passing_yes n (writes ops b) (writes_here true e)) ∙ ap (λ k. passing k (writes ops b)) (sym (add-one n));
        few = omega (arith, length_push ws (unread ops n));
        each = each_push (λ _ w. w ≡ unread ops w.place) ws (unread ops n) so_far.each refl;
      })

      -- it has its value twice where a rank has it
      twice_here : (r : Option ℕ) → Lowest (length ws) (same_value ops ws n) r → faulty (of_bay b) written_twice ops n ≡ is_some r
      twice_here r l =
          twice_ranked ops b n within e r
          (subst (λ ps. Lowest (length ps) (λ i. alike (at ops (get_or ps i 0)) (at ops n)) r) so_far.ranked
          (subst (λ k. Lowest k (same_value ops ws n) r) (sym (length-map ws (λ w. w.place))) l))

      pub twice_yes : (first : Option ℕ) (twice : Bool) → Lowest n (faulty (of_bay b) written_twice ops) first → ((r : Option ℕ) × Lowest (length ws) (same_value ops ws n) r × (twice ≡ is_some r)) → twice ≡ true → Lowest (n + 1) (faulty (of_bay b) written_twice ops) (option_or first (Some n))
      twice_yes first twice l x t = lowest_yes _ n first l (twice_here x.0 x.1 ∙ sym x.2 ∙ t)

      pub twice_no : (first : Option ℕ) (twice : Bool) → Lowest n (faulty (of_bay b) written_twice ops) first → ((r : Option ℕ) × Lowest (length ws) (same_value ops ws n) r × (twice ≡ is_some r)) → twice ≡ false → Lowest (n + 1) (faulty (of_bay b) written_twice ops) first
      twice_no first twice l x t = lowest_no _ n first l (twice_here x.0 x.1 ∙ sym x.2 ∙ t)

      -- so it is told, where it is added
      pub wrote_added : (is : List Span) → (length ws < 64) × (is ≡ ws ++ (unread ops n ∷ [])) → WriteAdded ops ws n is (Ok (faulty (of_bay b) written_twice ops n))
      wrote_added is h = let x = lowest_is (length ws) (same_value ops ws n) in (h.0, h.1, (x.0, x.1, twice_here x.0 x.1))

      -- one write more than there may be
      pub wrote_over : 64 ≤ length ws → 64 < tally (length ops) (writes ops b)
      wrote_over h = omega (arith, tally_rising (length ops) (writes ops b) (n + 1) (omega arith), ap (λ k. tally k (writes ops b)) (add-one n), ap bit (writes_here true e), passing_length n (writes ops b), ap length so_far.ranked, length-map ws (λ w. w.place))

    module _ (e : (of_bay b (at ops n) && (at ops n).write) ≡ false) where
      pub wrote_no : Wrote ops b (n + 1) ws
      wrote_no = record {
        ranked = so_far.ranked ∙ sym (passing_no n (writes ops b) (writes_here false e)) ∙ ap (λ k. passing k (writes ops b)) (sym (add-one n));
        few = so_far.few;
        each = so_far.each;
      }

      pub not_twice : (first : Option ℕ) → Lowest n (faulty (of_bay b) written_twice ops) first → Lowest (n + 1) (faulty (of_bay b) written_twice ops) first
      not_twice first l = lowest_no _ n first l (twice_not ops b n within e)
