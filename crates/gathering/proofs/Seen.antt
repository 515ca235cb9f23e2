-- The writes of a bay as their reads leave them, one operation more at a time. Assumes nothing.
use Rattle.std.proofs.Common.{◌≡◌, ℕ, ◌+◌, ◌<◌, Bool, true, false, not, ◌&&◌, ◌⊎◌, List, length, get_or, set, Some, None, Option, sym, refl, ap, ◌∙◌, subst, inl, inr, arith}
use Rattle.std.proofs.lemmas.List.{length-map, length-set, get_or-map, get_or-set_same, get_or-set_other, map-set, set-get_or}
use Rattle.std.proofs.lemmas.Bool.{cases_eq, both_ways, and_from, eq-eqb}
use Rattle.orders.specs.Orders.{Operation, at, alike, reads, writes, of_bay, Distinct}
use Rattle.orders.proofs.Operations.{Writing, like, alike_join, reading, writing, written as is-written, write_within}
use Rattle.bays.specs.Faults.{Lowest}
use Rattle.bays.specs.Writes.{write_places}
use Rattle.bays.proofs.Ranks.{place_below, place_writes, places_apart}
use Rattle.gathering.specs.Spans.{Span}
use Rattle.gathering.specs.Gathering.{LastRead, AsLeft, Wrote, Seen}
use Rattle.gathering.specs.Writes.{places, same_value, read_by, PlacesBelow}
use Rattle.gathering.proofs.Spanned.{soonest_no, soonest_yes, last_no, last_yes}

-- a test that cannot pass fails
pub fails : (t : Bool) → (t ≡ true → ⊥) → t ≡ false
fails true h = absurd (h refl)
fails false h = refl

module _ (ops : List Operation) (b : ℕ) where
  -- before any read
  pub seen_none : (ws : List Span) → Wrote ops b (length ops) ws → Seen ops b 0 ws
  seen_none ws w = record {
    ranked = w.ranked;
    few = w.few;
    kept = λ rank d h. ap (λ v. v.start) (w.each rank d h);
    each = λ dist rank d h. record {
      finish = ap (λ v. v.finish) (w.each rank d h);
      last = subst (LastRead ops 0 (at ops (get_or ws rank d).place)) (sym (ap (λ v. v.last_read) (w.each rank d h))) (λ p l. absurd (omega arith));
    };
  }

  module _ (n : ℕ) (ws : List Span) (seen : Seen ops b n ws) where
    -- as many as the bay has
    pub count : length ws ≡ length (write_places ops b)
    count = sym (length-map ws (λ w. w.place)) ∙ ap length seen.ranked

    pub place_of : (i : ℕ) (d : Span) → i < length ws → (get_or ws i d).place ≡ get_or (write_places ops b) i 0
    place_of i d h = sym (get_or-map (λ w. w.place) ws i d 0 h) ∙ ap (λ l. get_or l i 0) seen.ranked

    -- each stands among the operations
    pub seen_below : PlacesBelow (length ops) ws
    seen_below i h = subst (λ l. get_or l i 0 < length ops) (sym seen.ranked) (place_below ops b i (omega (arith, count)))

    -- what stands at a rank is a write of the bay
    rank_writes : (i : ℕ) (d : Span) → i < length ws → Writing ops b (get_or ws i d).place
    rank_writes i d h = writing ops b _ (subst (λ p. writes ops b p ≡ true) (sym (place_of i d h)) (place_writes ops b i (omega (arith, count))))

    module _ (within : n < length ops) where
      -- whether its value is that of the operation at n
      rank_same : (i : ℕ) (d : Span) → i < length ws → same_value ops ws n i ≡ alike (at ops (get_or ws i d).place) (at ops n)
      rank_same i d h = ap (λ p. alike (at ops p) (at ops n)) (get_or-map (λ w. w.place) ws i d 0 h)

      -- the lowest rank of the operation's value
      pub lowest_rank : (r : Option ℕ) → Lowest (length ws) (same_value ops ws n) r → Lowest (length (write_places ops b)) (λ i. alike (at ops (get_or (write_places ops b) i 0)) (at ops n)) r
      lowest_rank r l =
          subst (λ ps. Lowest (length ps) (λ i. alike (at ops (get_or ps i 0)) (at ops n)) r) seen.ranked
          (subst (λ k. Lowest k (same_value ops ws n) r) (sym (length-map ws (λ w. w.place))) l)

      -- the operation reads no write
      module _ (none : (i : ℕ) (d : Span) → i < length ws → reads (at ops n) (at ops (get_or ws i d).place) ≡ false) where
        pub seen_skip : Seen ops b (n + 1) ws
        seen_skip = record {
          ranked = seen.ranked;
          few = seen.few;
          kept = seen.kept;
          each = λ dist i d h.
              let left = seen.each dist i d h in
              let w = at ops (get_or ws i d).place in
              record { finish = left.finish ∙ soonest_no ops w n within (none i d h); last = last_no ops w n within (get_or ws i d).last_read left.last (none i d h) };
        }

      -- since it is no read of the bay,
      pub seen_not : (of_bay b (at ops n) && not (at ops n).write) ≡ false → Seen ops b (n + 1) ws
      seen_not e = seen_skip (λ i d h. fails _ (λ t.
          let r = reading (at ops n) (at ops (get_or ws i d).place) t in
          let same = sym (like (at ops (get_or ws i d).place) (at ops n) r.same).bays ∙ (rank_writes i d h).bay in
          both_ways _ e (and_from _ _ (eq-eqb (at ops n).bay b same) (ap not r.reading))))

      -- or since no write has its value
      pub seen_unwritten : Lowest (length ws) (same_value ops ws n) None → Seen ops b (n + 1) ws
      seen_unwritten l = seen_skip (λ i d h. fails _ (λ t.
          let r = reading (at ops n) (at ops (get_or ws i d).place) t in
          both_ways _ (l i h) (rank_same i d h ∙ r.same)))

      -- the operation reads the write of a rank
      module _ (k : ℕ) (w : Span) (low : Lowest (length ws) (same_value ops ws n) (Some k)) (stands : w ≡ get_or ws k w) (is_read : (of_bay b (at ops n) && not (at ops n).write) ≡ true) where
        ranked_here : places (set ws k (read_by w (at ops n))) ≡ places ws
        ranked_here =
            map-set (λ v. v.place) ws k (read_by w (at ops n)) ∙ ap (λ v. set (places ws) k v.place) stands
            ∙ ap (set (places ws) k) (sym (get_or-map (λ v. v.place) ws k w 0 low.0)) ∙ set-get_or (places ws) k 0

        here_reads : ((at ops w.place).write ≡ true) × (alike (at ops w.place) (at ops n) ≡ true)
        here_reads = subst (λ v. ((at ops v.place).write ≡ true) × (alike (at ops v.place) (at ops n) ≡ true)) (sym stands) ((rank_writes k w low.0).write, sym (rank_same k w low.0) ∙ low.1)

        reads_it : reads (at ops n) (at ops w.place) ≡ true
        reads_it = and_from _ _ here_reads.0 (and_from _ _ (right (of_bay b (at ops n)) (not (at ops n).write) is_read) here_reads.1)
          where
            right : (s t : Bool) → (s && t) ≡ true → t ≡ true
            right true t e = e
            right false t e = absurd (both_ways false refl e)

        -- each rank, from what held of it
        module _ (P Q : Span → Type 0) (was : (i : ℕ) (d : Span) → i < length ws → P (get_or ws i d)) where
          pub each_set : (P w → Q (read_by w (at ops n))) → ((i : ℕ) (d : Span) → i < length ws → (i ≡ k → ⊥) → P (get_or ws i d) → Q (get_or ws i d)) → (i : ℕ) (d : Span) → i < length (set ws k (read_by w (at ops n))) → Q (get_or (set ws k (read_by w (at ops n))) i d)
          each_set changed others i d h = go (cases_eq i k)
            where
              lies : i < length ws
              lies = omega (arith, length-set ws k (read_by w (at ops n)))

              go : ((i ≡ k) ⊎ (i ≡ k → ⊥)) → Q (get_or (set ws k (read_by w (at ops n))) i d)
              go (inl s) = subst Q (sym (ap (λ j. get_or (set ws k (read_by w (at ops n))) j d) s ∙ get_or-set_same ws k (read_by w (at ops n)) d low.0)) (changed (subst P (sym stands) (was k w low.0)))
              go (inr ne) = subst Q (sym (get_or-set_other ws k i (read_by w (at ops n)) d ne)) (others i d lies ne (was i d lies))

        left_here : AsLeft ops n w → AsLeft ops (n + 1) (read_by w (at ops n))
        left_here left = record {
          finish = soonest_yes ops (at ops w.place) n within reads_it w.finish left.finish;
          last = last_yes ops (at ops w.place) n within reads_it w.last_read left.last;
        }

        -- a rank of another write, where no value is written twice
        left_other : Distinct ops (of_bay b) → (i : ℕ) (d : Span) → i < length ws → (i ≡ k → ⊥) → AsLeft ops n (get_or ws i d) → AsLeft ops (n + 1) (get_or ws i d)
        left_other dist i d h ne left =
            let v = at ops (get_or ws i d).place in
            let none : reads (at ops n) v ≡ false = fails _ (λ t.
            let r = reading (at ops n) v t in
            let u = rank_writes i d h in
            let x = rank_writes k w low.0 in
            let one = dist (get_or ws i d).place (get_or ws k w).place (write_within ops b _ (written_from u)) (write_within ops b _ (written_from x)) u.write x.write (alike_join v (at ops (get_or ws k w).place) (at ops n) r.same (subst (λ q. alike (at ops q.place) (at ops n) ≡ true) stands here_reads.1)) in
            places_apart ops b i k (omega (arith, count)) (omega (arith, count, low.0)) ne (sym (place_of i d h) ∙ one ∙ place_of k w low.0)) in
            record { finish = left.finish ∙ soonest_no ops v n within none; last = last_no ops v n within (get_or ws i d).last_read left.last none }
          where
            written_from : {p : ℕ} → Writing ops b p → writes ops b p ≡ true
            written_from x = is-written ops b _ x

        pub seen_read : Seen ops b (n + 1) (set ws k (read_by w (at ops n)))
        seen_read = record {
          ranked = ranked_here ∙ seen.ranked;
          few = omega (arith, length-set ws k (read_by w (at ops n)), seen.few);
          kept = each_set (λ v. v.start ≡ (at ops v.place).start) (λ v. v.start ≡ (at ops v.place).start) seen.kept (λ e. e) (λ i d h ne e. e);
          each = λ dist. each_set (AsLeft ops n) (AsLeft ops (n + 1)) (seen.each dist) left_here (left_other dist);
        }
