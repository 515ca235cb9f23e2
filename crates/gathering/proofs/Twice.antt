-- The first write whose value an earlier one has, by rank. Assumes nothing.
use Rattle.std.proofs.Common.{◌≡◌, ℕ, ◌+◌, ◌<◌, ◌≤◌, true, false, ◌&&◌, ltb, ◌⊎◌, List, length, get_or, is_some, Some, None, Option, sym, refl, ap, ◌∙◌, subst, inl, inr, arith, below_more}
use mathlib.Core.Bool.{and_comm}
use Rattle.std.specs.Option.{unwrap_or}
use Rattle.std.proofs.lemmas.List.{length-map}
use Rattle.std.proofs.lemmas.Bool.{cases_lt, cases_order, cases_Bool, lt-ltb, le-ltb}
use Rattle.orders.specs.Orders.{Operation, at, alike, write_of, writes, of_bay}
use Rattle.orders.proofs.Operations.{writing}
use Rattle.bays.specs.Faults.{Lowest, faulty, written_twice}
use Rattle.bays.specs.Writes.{write_places}
use Rattle.bays.proofs.Faulty.{twice_first, twice_not}
use Rattle.bays.proofs.Ranks.{place_below, place_writes, write_listed, places_rising, ranked_none, ranked_some}
use Rattle.operations.specs.declared.row.Row.{Row}
use Rattle.relations.specs.Meanings.{told}
use Rattle.relations.proofs.Told.{told_length}
use Rattle.gathering.specs.Spans.{Span, span, spans}
use Rattle.gathering.specs.Gathering.{Wrote}
use Rattle.gathering.specs.declared.write.Write.{Write}
use Rattle.gathering.specs.Writes.{places, same_value, PlacesBelow}
use Rattle.gathering.proofs.Ranked.{place_at}

-- ranks below i have their values once
abbrev pub OnceBelow : List Operation → ℕ → ℕ → Type 0
OnceBelow ops b i = (j : ℕ) → j < i → faulty (of_bay b) written_twice ops (get_or (write_places ops b) j 0) ≡ false

-- so they have, or the first that has not is found
abbrev pub TwiceBelow : List Operation → ℕ → (n i : ℕ) → Option ℕ → Type 0
TwiceBelow ops b n i None = OnceBelow ops b i
TwiceBelow ops b n i (Some place) = Lowest n (faulty (of_bay b) written_twice ops) (Some place)

module _ (ops : List Operation) (b : ℕ) (ws : List Span) (wrote : Wrote ops b (length ops) ws) where
  -- the place of a rank
  abbrev here : ℕ → ℕ
  here i = get_or (write_places ops b) i 0

  pub here_is : (i : ℕ) → get_or (places ws) i 0 ≡ here i
  here_is i = ap (λ ps. get_or ps i 0) wrote.ranked

  count : length ws ≡ length (write_places ops b)
  count = sym (length-map ws (λ w. w.place)) ∙ ap length wrote.ranked

  module _ (i : ℕ) (h : i < length ws) where
    within : i < length (write_places ops b)
    within = omega (arith, count)

    -- the value is written twice where the first write of it stands earlier
    module _ (r : Option ℕ) (low : Lowest (length ws) (same_value ops ws (get_or (places ws) i 0)) r) where
      ranked : Lowest (length (write_places ops b)) (λ k. alike (at ops (here k)) (at ops (here i))) r
      ranked =
          subst (λ p. Lowest (length (write_places ops b)) (λ k. alike (at ops (here k)) (at ops p)) r) (here_is i)
          (subst (λ ps. Lowest (length ps) (λ k. alike (at ops (get_or ps k 0)) (at ops (get_or (places ws) i 0))) r) wrote.ranked
          (subst (λ n. Lowest n (same_value ops ws (get_or (places ws) i 0)) r) (sym (length-map ws (λ w. w.place))) low))

      is_write : writes ops b (here i) ≡ true
      is_write = place_writes ops b i within

      test : faulty (of_bay b) written_twice ops (here i) ≡ ltb (write_of ops (at ops (here i))) (here i)
      test = twice_first ops b (here i) (place_below ops b i within) is_write

    in_bay : (at ops (here i)).bay ≡ b
    in_bay = (writing ops b (here i) (place_writes ops b i within)).bay

    -- that is where its lowest rank is lower
    pub rank_test : (r : Option ℕ) → Lowest (length ws) (same_value ops ws (get_or (places ws) i 0)) r → faulty (of_bay b) written_twice ops (here i) ≡ ltb (unwrap_or r i) i
    rank_test None low =
        test None low
        ∙ le-ltb (write_of ops (at ops (here i))) (here i) (omega (arith, ranked_none ops b (at ops (here i)) in_bay (ranked None low), place_below ops b i within))
        ∙ sym (le-ltb i i (omega arith))
    rank_test (Some k) low =
        test (Some k) low ∙ ap (λ q. ltb q (here i)) (sym (ranked_some ops b (at ops (here i)) in_bay k (ranked (Some k) low)))
        ∙ go (cases_order k i)
      where
        go : ((k ≡ i) ⊎ ((k < i) ⊎ (i < k))) → ltb (here k) (here i) ≡ ltb k i
        go (inl s) = le-ltb (here k) (here i) (omega (arith, ap here s)) ∙ sym (le-ltb k i (omega arith))
        go (inr (inl lt)) = lt-ltb (here k) (here i) (places_rising ops b k i lt within) ∙ sym (lt-ltb k i lt)
        go (inr (inr gt)) = le-ltb (here k) (here i) (omega (arith, places_rising ops b i k gt (ranked (Some k) low).0)) ∙ sym (le-ltb k i (omega arith))

  -- so has each place below that of rank i, or each place where i is past all ranks
  once_below : (i q : ℕ) → OnceBelow ops b i → q < length ops → ((j : ℕ) → j < length ws → here j ≡ q → j < i) → faulty (of_bay b) written_twice ops q ≡ false
  once_below i q once h below = go (cases_Bool (writes ops b q))
    where
      go : ((writes ops b q ≡ true) ⊎ (writes ops b q ≡ false)) → faulty (of_bay b) written_twice ops q ≡ false
      go (inl t) =
          let x = write_listed ops b q t in
          subst (λ p. faulty (of_bay b) written_twice ops p ≡ false) x.2 (once x.0 (below x.0 (omega (arith, count, x.1)) x.2))
      go (inr f) = twice_not ops b q h (and_comm (of_bay b (at ops q)) (at ops q).write ∙ unlisted f)
        where
          unlisted : writes ops b q ≡ false → ((at ops q).write && of_bay b (at ops q)) ≡ false
          unlisted f = sym (ap (λ l. l && ((at ops q).write && of_bay b (at ops q))) (lt-ltb q (length ops) h)) ∙ f

  -- the first whose value is written twice,
  pub twice_at : (i : ℕ) → i < length ws → OnceBelow ops b i → faulty (of_bay b) written_twice ops (here i) ≡ true → Lowest (length ops) (faulty (of_bay b) written_twice ops) (Some (here i))
  twice_at i h once t =
      let k : i < length (write_places ops b) = omega (arith, count) in
      (place_below ops b i k, t, λ q l. once_below i q once (omega (arith, place_below ops b i k)) (λ j m e. rises j m e l (cases_lt j i)))
    where
      rises : (j : ℕ) → j < length ws → {q : ℕ} → here j ≡ q → q < here i → ((j < i) ⊎ (i ≤ j)) → j < i
      rises j m e l (inl lt) = lt
      rises j m e l (inr le) = absurd (above (cases_order i j))
        where
          above : ((i ≡ j) ⊎ ((i < j) ⊎ (j < i))) → ⊥
          above (inl s) = omega (arith, ap here s, e, l)
          above (inr (inl lt)) = omega (arith, places_rising ops b i j lt (omega (arith, count, m)), e, l)
          above (inr (inr gt)) = omega (arith, le)

  -- or none
  pub twice_nowhere : OnceBelow ops b (length ws) → Lowest (length ops) (faulty (of_bay b) written_twice ops) None
  twice_nowhere once = λ q h. once_below (length ws) q once h (λ j m e. m)

-- the same of rows
module _ {V : Type 0} (m : V → ℕ × ℕ) (rows : List (Row V)) (ws : List Write) (below : PlacesBelow (length rows) (spans ws)) (b : ℕ) (wrote : Wrote (told m rows) b (length rows) (spans ws)) where
  whole : Wrote (told m rows) b (length (told m rows)) (spans ws)
  whole = subst (λ n. Wrote (told m rows) b n (spans ws)) (sym (told_length m rows)) wrote

  -- one rank more has its value once,
  module _ (i : ℕ) (d : Write) (h : i < length ws) (r : Option ℕ) (low : Lowest (length ws) (same_value (told m rows) (spans ws) (get_or ws i d).place) r) where
    lies : i < length (spans ws)
    lies = omega (arith, h, length-map ws span)

    ranked_low : Lowest (length (spans ws)) (same_value (told m rows) (spans ws) (get_or (places (spans ws)) i 0)) r
    ranked_low =
        subst (λ n. Lowest n (same_value (told m rows) (spans ws) (get_or (places (spans ws)) i 0)) r) (sym (length-map ws span))
        (subst (λ p. Lowest (length ws) (same_value (told m rows) (spans ws) p) r) (sym (place_at m rows ws below i d h)) low)

    decides : faulty (of_bay b) written_twice (told m rows) (get_or (write_places (told m rows) b) i 0) ≡ ltb (unwrap_or r i) i
    decides = rank_test (told m rows) b (spans ws) whole i lies r ranked_low

    pub rows_once : OnceBelow (told m rows) b i → i ≤ unwrap_or r i → OnceBelow (told m rows) b (i + 1)
    rows_once once le = below_more _ _ once (decides ∙ le-ltb (unwrap_or r i) i le)

    -- or is the first that has it twice
    pub rows_twice : OnceBelow (told m rows) b i → unwrap_or r i < i → Lowest (length rows) (faulty (of_bay b) written_twice (told m rows)) (Some (get_or ws i d).place)
    rows_twice once lt =
        subst (λ n. Lowest n (faulty (of_bay b) written_twice (told m rows)) (Some (get_or ws i d).place)) (told_length m rows)
        (subst (λ p. Lowest (length (told m rows)) (faulty (of_bay b) written_twice (told m rows)) (Some p)) (sym (here_is (told m rows) b (spans ws) whole i) ∙ place_at m rows ws below i d h)
        (twice_at (told m rows) b (spans ws) whole i lies once (decides ∙ lt-ltb (unwrap_or r i) i lt)))

  -- or none has
  pub rows_nowhere : OnceBelow (told m rows) b (length ws) → Lowest (length rows) (faulty (of_bay b) written_twice (told m rows)) None
  rows_nowhere once =
      subst (λ n. Lowest n (faulty (of_bay b) written_twice (told m rows)) None) (told_length m rows)
      (twice_nowhere (told m rows) b (spans ws) whole (subst (OnceBelow (told m rows) b) (sym (length-map ws span)) once))

  -- so in the end it is known
  pub rows_known : (twice : Option ℕ) → TwiceBelow (told m rows) b (length rows) (length ws) twice → Lowest (length rows) (faulty (of_bay b) written_twice (told m rows)) twice
  rows_known None t = rows_nowhere t
  rows_known (Some place) t = t

-- a place that is found stays so
pub still_twice : (ops : List Operation) (b n i : ℕ) (twice : Option ℕ) → is_some twice ≡ true → TwiceBelow ops b n i twice → TwiceBelow ops b n (i + 1) twice
still_twice ops b n i None e t = let z : ◌≡◌ {A = ℕ} 0 1 = cc in absurd (omega arith)
still_twice ops b n i (Some place) e t = t

pub once_so_far : (ops : List Operation) (b n i : ℕ) (twice : Option ℕ) → is_some twice ≡ false → TwiceBelow ops b n i twice → OnceBelow ops b i
once_so_far ops b n i None e t = t
once_so_far ops b n i (Some place) e t = let z : ◌≡◌ {A = ℕ} 0 1 = cc in absurd (omega arith)

pub none_twice : (twice : Option ℕ) → is_some twice ≡ false → twice ≡ None
none_twice None e = refl
none_twice (Some place) e = let z : ◌≡◌ {A = ℕ} 0 1 = cc in absurd (omega arith)
