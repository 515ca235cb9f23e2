-- The edges by rank are those between the writes of the bay. Assumes nothing.
use Rattle.std.proofs.Common.{◌≡◌, ℕ, zero, suc, ◌<◌, Bool, true, false, not, ◌&&◌, eqb, ltb, ◌⊎◌, List, [], ◌∷◌, length, get_or, Some, None, Option, sym, refl, ap, ◌∙◌, subst, ap₂, inl, inr, arith}
use Rattle.std.proofs.lemmas.List.{get_or-map, take_all}
use Rattle.std.proofs.lemmas.Bool.{cases_eq, eq-eqb, ne_eqb, lt-ltb, ltb-true, and_parts, and_from, both_ways}
use Rattle.orders.specs.Orders.{Operation, at, before, reads, soonest, shortened, of_bay, write_edge, read_edge, Distinct}
use Rattle.orders.specs.Places.{some}
use Rattle.orders.proofs.Counts.{some_is, is_some}
use Rattle.bays.specs.Writes.{write_places}
use Rattle.bays.proofs.Ranks.{places_apart}
use Rattle.gathering.specs.Spans.{Span}
use Rattle.gathering.specs.Gathering.{LastRead, AsLeft, Seen}
use Rattle.gathering.proofs.Seen.{count}
use Rattle.trying.specs.Edges.{before_last, is_into, is_from}
use Rattle.trying.proofs.Masked.{finish_at, last_at}

-- each rank has a write
pub ranked : (ws : List Span) (i : ℕ) → i < length ws → (w : Span) × (w ≡ get_or ws i w)
ranked [] i h = absurd (omega arith)
ranked (w ∷ ws) zero h = (w, refl)
ranked (w ∷ ws) (suc i) h = ranked ws i (omega arith)

-- what is before some read of a write is before the one that starts last
some_read : (ops : List Operation) (o w : Operation) (last : Option ℕ) → LastRead ops (length ops) w last → some (length ops) (λ r. reads (at ops r) w && before o (at ops r)) ≡ before_last o.finish last
some_read ops o w last l = go (some (length ops) test) refl last l
  where
    test : ℕ → Bool
    test r = reads (at ops r) w && before o (at ops r)

    go : (t : Bool) → some (length ops) test ≡ t → (last : Option ℕ) → LastRead ops (length ops) w last → some (length ops) test ≡ before_last o.finish last
    go true e (Some start) l =
        let x = some_is (length ops) test e in
        let y = and_parts (reads (at ops x.0) w) (before o (at ops x.0)) x.2 in
        e ∙ sym (lt-ltb o.finish start (omega (arith, l.1 x.0 x.1 y.0, ltb-true o.finish (at ops x.0).start y.1)))
    go true e None l =
        let x = some_is (length ops) test e in
        absurd (both_ways _ (l x.0 x.1) (and_parts (reads (at ops x.0) w) (before o (at ops x.0)) x.2).0)
    go false e (Some start) l = no (ltb o.finish start) refl
      where
        no : (t : Bool) → ltb o.finish start ≡ t → some (length ops) test ≡ ltb o.finish start
        no true f = absurd (both_ways _ e (is_some (length ops) test l.0.0 l.0.1 (and_from _ _ l.0.2 (ap (ltb o.finish) l.0.3 ∙ f))))
        no false f = e ∙ sym f
    go false e None l = e

module _ (ops : List Operation) (b : ℕ) (ws : List Span) (seen : Seen ops b (length ops) ws) where
  module _ (dist : Distinct ops (of_bay b)) where
    -- the write of a rank is the one at its place, shortened
    module _ (i : ℕ) (w : Span) (h : i < length ws) (stands : w ≡ get_or ws i w) where
      left : AsLeft ops (length ops) w
      left = subst (AsLeft ops (length ops)) (sym stands) (seen.each dist i w h)

      place_is : w.place ≡ get_or (write_places ops b) i 0
      place_is = ap (λ v. v.place) stands ∙ sym (get_or-map (λ v. v.place) ws i w 0 h) ∙ ap (λ l. get_or l i 0) seen.ranked

      start_is : w.start ≡ (at ops (get_or (write_places ops b) i 0)).start
      start_is = subst (λ v. v.start ≡ (at ops v.place).start) (sym stands) (seen.kept i w h) ∙ ap (λ p. (at ops p).start) place_is

      finish_is : w.finish ≡ soonest ops (at ops (get_or (write_places ops b) i 0))
      finish_is = left.finish ∙ ap₂ (λ l p. soonest l (at ops p)) (take_all (length ops) ops (omega arith)) place_is

      last_is : LastRead ops (length ops) (at ops (get_or (write_places ops b) i 0)) w.last_read
      last_is = subst (λ p. LastRead ops (length ops) (at ops p) w.last_read) place_is left.last

    module _ (i j : ℕ) (v w : Span) (h : i < length ws) (k : j < length ws) (is-i : v ≡ get_or ws i v) (is-j : w ≡ get_or ws j w) where
      pub into_is : is_into ws w i ≡ write_edge ops (get_or (write_places ops b) i 0) (get_or (write_places ops b) j 0)
      into_is = ap₂ ltb (finish_at ws i v h ∙ ap (λ x. x.finish) (sym is-i) ∙ finish_is i v h is-i) (start_is j w k is-j)

      same_rank : eqb j i ≡ eqb (get_or (write_places ops b) i 0) (get_or (write_places ops b) j 0)
      same_rank = go (cases_eq i j)
        where
          go : ((i ≡ j) ⊎ (i ≡ j → ⊥)) → eqb j i ≡ eqb (get_or (write_places ops b) i 0) (get_or (write_places ops b) j 0)
          go (inl s) = eq-eqb j i (sym s) ∙ sym (eq-eqb _ _ (ap (λ x. get_or (write_places ops b) x 0) s))
          go (inr d) = ne_eqb j i (λ s. d (sym s)) ∙ sym (ne_eqb _ _ (places_apart ops b i j (omega (arith, count ops b (length ops) ws seen)) (omega (arith, count ops b (length ops) ws seen)) d))

      pub from_is : is_from ws i v j ≡ read_edge ops (get_or (write_places ops b) i 0) (get_or (write_places ops b) j 0)
      from_is =
          ap₂ (λ t o. not t && before_last v.finish o) same_rank (last_at ws j w k ∙ ap (λ x. x.last_read) (sym is-j))
          ∙ ap (λ f. not (eqb (get_or (write_places ops b) i 0) (get_or (write_places ops b) j 0)) && before_last f w.last_read) (finish_is i v h is-i)
          ∙ ap (λ t. not (eqb (get_or (write_places ops b) i 0) (get_or (write_places ops b) j 0)) && t) (sym (some_read ops (shortened ops (at ops (get_or (write_places ops b) i 0))) (at ops (get_or (write_places ops b) j 0)) w.last_read (last_is j w k is-j)))
