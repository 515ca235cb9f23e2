-- A bay gathered from operations. Assumes nothing.
use Rattle.std.specs.Prelude.{◌≡◌, ℕ, ◌<◌, ◌≤◌, Bool, true, false, not, ◌&&◌, List, length, get_or, take, Some, None, Option}
use Rattle.std.specs.Option.{option_or}
use Rattle.lists.specs.Lists.{listed}
use Rattle.orders.specs.Orders.{Operation, at, reads, soonest, of_bay, writes, Distinct}
use Rattle.orders.specs.Places.{some}
use Rattle.bays.specs.Faults.{Lowest, faulty, written_twice, unwritten, foreseen}
use Rattle.bays.specs.Verdicts.{has_read}
use Rattle.bays.specs.Writes.{passing, write_places}
use Rattle.gathering.specs.declared.bay.Bay.{Bay}
use Rattle.gathering.specs.declared.reads.Reads.{Reads}
use Rattle.gathering.specs.Spans.{Span, spans}
use Rattle.gathering.specs.Writes.{places, unread}

-- the read of w among the first n operations that starts last starts there; there is no start where w has no read among them
abbrev pub LastRead : List Operation → ℕ → Operation → Option ℕ → Type 0
LastRead ops n w (Some start) = ((p : ℕ) × (p < n) × (reads (at ops p) w ≡ true) × ((at ops p).start ≡ start)) × ((p : ℕ) → p < n → reads (at ops p) w ≡ true → (at ops p).start ≤ start)
LastRead ops n w None = (p : ℕ) → p < n → reads (at ops p) w ≡ false

-- after the reads among the first n operations: what is wrong with them, and whether there are any
pub record ReadsUpTo (ops : List Operation) (b n : ℕ) (r : Reads) : Type 0 where
  pub any : r.any ≡ some n (λ p. of_bay b (at ops p) && not (at ops p).write)
  pub lacking : Lowest n (faulty (of_bay b) unwritten ops) r.unwritten
  pub early : Lowest n (faulty (of_bay b) foreseen ops) r.foreseen

-- with a read at a place more, whose write is missing, or is told with whether the read is before it
abbrev pub noted : Reads → ℕ → Option Bool → Reads
noted r place None = record { any = true; unwritten = option_or r.unwritten (Some place); foreseen = r.foreseen }
noted r place (Some true) = record { any = true; unwritten = r.unwritten; foreseen = option_or r.foreseen (Some place) }
noted r place (Some false) = record { any = true; unwritten = r.unwritten; foreseen = r.foreseen }

-- the bay with what is found of its reads, and the place of the first write of a value that an earlier one has
abbrev pub with_reads : Bay → Option ℕ → Reads → Bay
with_reads bay twice r = record { writes = bay.writes; read = r.any; faults = record { written_twice = twice; unwritten = r.unwritten; foreseen = r.foreseen } }

module _ (ops : List Operation) where
  -- a write as the first n operations leave it: shortened by its reads, with the start of the last of them
  pub record AsLeft (n : ℕ) (w : Span) : Type 0 where
    pub finish : w.finish ≡ soonest (take n ops) (at ops w.place)
    pub last : LastRead ops n (at ops w.place) w.last_read

  -- the writes of bay b among the first n operations, before their reads are looked at
  pub record Wrote (b n : ℕ) (ws : List Span) : Type 0 where
    pub ranked : places ws ≡ passing n (writes ops b)
    pub few : length ws ≤ 64
    pub each : (rank : ℕ) (d : Span) → rank < length ws → get_or ws rank d ≡ unread ops (get_or ws rank d).place

  -- all writes of bay b, as the first n operations leave them; where a value is written twice, only their starts need be so
  pub record Seen (b n : ℕ) (ws : List Span) : Type 0 where
    pub ranked : places ws ≡ write_places ops b
    pub few : length ws ≤ 64
    pub kept : (rank : ℕ) (d : Span) → rank < length ws → (get_or ws rank d).start ≡ (at ops (get_or ws rank d).place).start
    pub each : Distinct ops (of_bay b) → (rank : ℕ) (d : Span) → rank < length ws → AsLeft n (get_or ws rank d)

  -- What is gathered of bay b: its writes by rank, at most 64, as its reads leave them; whether it has a read; and the lowest place
  -- of each fault.
  pub record Gathered (b : ℕ) (bay : Bay) : Type 0 where
    pub writes : Seen b (length ops) (spans (listed bay.writes))
    pub read : bay.read ≡ has_read ops b
    pub once : Lowest (length ops) (faulty (of_bay b) written_twice ops) bay.faults.written_twice
    pub sourced : Lowest (length ops) (faulty (of_bay b) unwritten ops) bay.faults.unwritten
    pub unforeseen : Lowest (length ops) (faulty (of_bay b) foreseen ops) bay.faults.foreseen
