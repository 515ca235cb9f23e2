-- A bay of rows, gathered. Assumes nothing.
use Rattle.std.proofs.Common.{◌≡◌, ℕ, ◌≤◌, not, ◌&&◌, List, length, Some, None, sym, ap, ◌∙◌, subst, arith}
use Rattle.std.proofs.lemmas.List.{length-map}
use Rattle.bays.proofs.Checked.{fails_13}
use Rattle.bays.proofs.Ranks.{places_count}
use Rattle.bays.specs.Faults.{Lowest, faulty, written_twice, unwritten, foreseen}
use Rattle.lists.specs.Lists.{listed}
use Rattle.operations.specs.declared.row.Row.{Row}
use Rattle.orders.specs.Orders.{at, of_bay, write_count}
use Rattle.orders.specs.Places.{some}
use Rattle.relations.specs.Meanings.{told}
use Rattle.relations.proofs.Told.{told_length}
use Rattle.gathering.specs.declared.bay.Bay.{Bay}
use Rattle.gathering.specs.Faults.{Refuses, Unspares}
use Rattle.gathering.specs.declared.faults.Fault.{Fault}
use Rattle.gathering.specs.declared.faults.Fault.TheVariants.{WrittenTwice}
use Rattle.gathering.specs.declared.faults.Faults.{Faults}
use Rattle.gathering.specs.declared.faults.Unspared.TheVariants.{Faulty}
use Rattle.gathering.specs.Spans.{Span, spans}
use Rattle.gathering.specs.Gathering.{ReadsUpTo, Wrote, Seen, Gathered}
use Rattle.gathering.specs.Writes.{PlacesBelow}
use Rattle.gathering.proofs.Seen.{seen_none}
use Rattle.gathering.proofs.Spared.{first_fault}
use Rattle.gathering.proofs.Wrote.{wrote_below}

module _ {V : Type 0} (m : V → ℕ × ℕ) (rows : List (Row V)) (b : ℕ) where
  module _ (ws : List Span) (wrote : Wrote (told m rows) b (length rows) ws) where
    -- the writes stand among the rows,
    pub rows_below : PlacesBelow (length rows) ws
    rows_below = wrote_below (told m rows) b (length rows) ws wrote

    -- and no read was looked at yet
    pub rows_seen : Seen (told m rows) b 0 ws
    rows_seen = seen_none (told m rows) b ws (subst (λ n. Wrote (told m rows) b n ws) (sym (told_length m rows)) wrote)

  -- after the reads, all is gathered
  pub rows_gathered : (bay : Bay) → Lowest (length rows) (faulty (of_bay b) written_twice (told m rows)) bay.faults.written_twice → Seen (told m rows) b (length rows) (spans (listed bay.writes)) → ReadsUpTo (told m rows) b (length rows) (record { any = bay.read; unwritten = bay.faults.unwritten; foreseen = bay.faults.foreseen }) → Gathered (told m rows) b bay
  rows_gathered bay twice seen found =
      let ops = told m rows in
      let same = sym (told_length m rows) in
      record {
        writes = subst (λ n. Seen ops b n (spans (listed bay.writes))) same seen;
        read = found.any ∙ ap (λ n. some n (λ p. of_bay b (at ops p) && not (at ops p).write)) same;
        once = subst (λ n. Lowest n (faulty (of_bay b) written_twice ops) bay.faults.written_twice) same twice;
        sourced = subst (λ n. Lowest n (faulty (of_bay b) unwritten ops) bay.faults.unwritten) same found.lacking;
        unforeseen = subst (λ n. Lowest n (faulty (of_bay b) foreseen ops) bay.faults.foreseen) same found.early;
      }

  -- there are no more writes than there may be,
  few : (ws : List Span) → Wrote (told m rows) b (length rows) ws → write_count (told m rows) b ≤ 64
  few ws wrote =
      let whole = subst (λ n. Wrote (told m rows) b n ws) (sym (told_length m rows)) wrote in
      omega (arith, whole.few, length-map ws (λ w. w.place), ap length whole.ranked, places_count (told m rows) b)

  -- and a fault is refused, as soon as no other can come before it
  pub faulty_unspares : (ws : List Span) → Wrote (told m rows) b (length rows) ws → (f : Faults) → Lowest (length rows) (faulty (of_bay b) written_twice (told m rows)) f.written_twice → Lowest (length rows) (faulty (of_bay b) unwritten (told m rows)) f.unwritten → (f.unwritten ≡ None → Lowest (length rows) (faulty (of_bay b) foreseen (told m rows)) f.foreseen) → (e : Fault) (g : Faults) → g ≡ f → Refuses g e → Unspares (told m rows) b (Faulty e)
  faulty_unspares ws wrote f twice lacking early e g same_faults r =
      let ops = told m rows in
      let same = sym (told_length m rows) in (
        few ws wrote,
        λ by. first_fault ops (of_bay b) f
            (subst (λ n. Lowest n (faulty (of_bay b) written_twice ops) f.written_twice) same twice)
            (subst (λ n. Lowest n (faulty (of_bay b) unwritten ops) f.unwritten) same lacking)
            (λ none. subst (λ n. Lowest n (faulty (of_bay b) foreseen ops) f.foreseen) same (early none)) by e (subst (λ h. Refuses h e) same_faults r),
      )

  -- one that is written twice before any read is looked at
  pub twice_unspares : (ws : List Span) → Wrote (told m rows) b (length rows) ws → (place : ℕ) → Lowest (length rows) (faulty (of_bay b) written_twice (told m rows)) (Some place) → Unspares (told m rows) b (Faulty (WrittenTwice place))
  twice_unspares ws wrote place l = (few ws wrote, λ by. fails_13 (told m rows) (of_bay b) by place (subst (λ n. Lowest n (faulty (of_bay b) written_twice (told m rows)) (Some place)) (sym (told_length m rows)) l))
