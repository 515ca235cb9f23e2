-- What is found of the reads of a bay, one operation more at a time. Assumes nothing.
use Rattle.std.proofs.Common.{◌≡◌, ℕ, ◌+◌, ◌<◌, Bool, true, false, not, ◌&&◌, ◌||◌, List, length, get_or, ltb, Some, None, Option, sym, ap, ◌∙◌, subst, add-one, arith}
use Rattle.orders.specs.Orders.{Operation, at, before, of_bay}
use Rattle.orders.specs.Places.{some}
use Rattle.bays.specs.Faults.{Lowest, faulty, unwritten, foreseen}
use Rattle.bays.specs.Writes.{write_places}
use Rattle.bays.proofs.Faulty.{unwritten_ranked, unwritten_not, foreseen_some, foreseen_none, foreseen_not}
use Rattle.gathering.specs.declared.reads.Reads.{Reads}
use Rattle.gathering.specs.Spans.{Span}
use Rattle.gathering.specs.Gathering.{ReadsUpTo, noted, Seen}
use Rattle.gathering.specs.Writes.{ReadAdded}
use Rattle.gathering.proofs.Lows.{lowest_yes, lowest_no}
use Rattle.gathering.proofs.Seen.{place_of, lowest_rank, seen_not, seen_unwritten, seen_read}

-- before any read
pub noted_nothing : (ops : List Operation) (b : ℕ) (r : Reads) → (r.any ≡ false) × ((r.unwritten ≡ None) × (r.foreseen ≡ None)) → ReadsUpTo ops b 0 r
noted_nothing ops b r (any, (lacking, early)) = record {
  any = any;
  lacking = subst (Lowest 0 (faulty (of_bay b) unwritten ops)) (sym lacking) (λ q h. absurd (omega arith));
  early = subst (Lowest 0 (faulty (of_bay b) foreseen ops)) (sym early) (λ q h. absurd (omega arith));
}

module _ (ops : List Operation) (b n : ℕ) (within : n < length ops) (r : Reads) (so_far : ReadsUpTo ops b n r) where
  some_more : (t : Bool) → (of_bay b (at ops n) && not (at ops n).write) ≡ t → (t || some n (λ p. of_bay b (at ops p) && not (at ops p).write)) ≡ some (n + 1) (λ p. of_bay b (at ops p) && not (at ops p).write)
  some_more t e = sym (ap (λ k. some k (λ p. of_bay b (at ops p) && not (at ops p).write)) (add-one n) ∙ ap (λ s. s || some n (λ p. of_bay b (at ops p) && not (at ops p).write)) e)

  -- where it is no read of the bay,
  pub noted_not : (of_bay b (at ops n) && not (at ops n).write) ≡ false → ReadsUpTo ops b (n + 1) r
  noted_not e = record {
    any = so_far.any ∙ some_more false e;
    lacking = lowest_no _ n r.unwritten so_far.lacking (unwritten_not ops b n within e);
    early = lowest_no _ n r.foreseen so_far.early (foreseen_not ops b n within e);
  }

  -- where its write is missing,
  noted_none : (of_bay b (at ops n) && not (at ops n).write) ≡ true → faulty (of_bay b) unwritten ops n ≡ true → faulty (of_bay b) foreseen ops n ≡ false → ReadsUpTo ops b (n + 1) (noted r n None)
  noted_none e u f = record { any = some_more true e; lacking = lowest_yes _ n r.unwritten so_far.lacking u; early = lowest_no _ n r.foreseen so_far.early f }

  -- and where it has one
  noted_some : (of_bay b (at ops n) && not (at ops n).write) ≡ true → (t : Bool) → faulty (of_bay b) unwritten ops n ≡ false → faulty (of_bay b) foreseen ops n ≡ t → ReadsUpTo ops b (n + 1) (noted r n (Some t))
  noted_some e true u f = record { any = some_more true e; lacking = lowest_no _ n r.unwritten so_far.lacking u; early = lowest_yes _ n r.foreseen so_far.early f }
  noted_some e false u f = record { any = some_more true e; lacking = lowest_no _ n r.unwritten so_far.lacking u; early = lowest_no _ n r.foreseen so_far.early f }

  module _ (ws : List Span) (seen : Seen ops b n ws) where
    -- another operation
    pub other_step : (of_bay b (at ops n) && not (at ops n).write) ≡ false → Seen ops b (n + 1) ws × ReadsUpTo ops b (n + 1) r
    other_step e = (seen_not ops b n ws seen within e, noted_not e)

    -- a read of the bay
    pub read_step : (of_bay b (at ops n) && not (at ops n).write) ≡ true → (is : List Span) (answer : Option Bool) → ReadAdded ops ws n is answer → Seen ops b (n + 1) is × ReadsUpTo ops b (n + 1) (noted r n answer)
    read_step e is None added =
        let low = lowest_rank ops b n ws seen within None added.0 in
        (subst (Seen ops b (n + 1)) (sym added.1) (seen_unwritten ops b n ws seen within added.0), noted_none e (unwritten_ranked ops b n within e None low) (foreseen_none ops b n within e low))
    read_step e is (Some t) (k, w, low, stands, tells, becomes) =
        let lowest = lowest_rank ops b n ws seen within (Some k) low in
        (subst (Seen ops b (n + 1)) (sym becomes) (seen_read ops b n ws seen within k w low stands e), noted_some e t (unwritten_ranked ops b n within e (Some k) lowest) (foreseen_some ops b n within e k lowest ∙ sym told))
      where
        starts : w.start ≡ (at ops (get_or (write_places ops b) k 0)).start
        starts = ap (λ v. v.start) stands ∙ seen.kept k w low.0 ∙ ap (λ p. (at ops p).start) (place_of ops b n ws seen k w low.0)

        told : t ≡ before (at ops n) (at ops (get_or (write_places ops b) k 0))
        told = tells ∙ ap (ltb (at ops n).finish) starts
