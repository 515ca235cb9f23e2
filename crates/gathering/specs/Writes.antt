-- The writes of a bay as they are gathered, one operation after another. Assumes nothing.
use Rattle.std.specs.Prelude.{◌≡◌, ℕ, ◌<◌, ◌≤◌, min, Bool, cond, List, [], ◌∷◌, ◌++◌, map, length, is_some, Some, None, Ok, Err, Option, Result, nat_le, nat_lt, slice_index, slice_index_or, slice_set}
use Rattle.orders.specs.Orders.{Operation, at, alike}
use Rattle.bays.specs.Faults.{Lowest}
use Rattle.gathering.specs.Spans.{Span}
use Rattle.gathering.specs.declared.faults.TooManyWrites.{TooManyWrites}

-- the places of gathered writes
abbrev pub places : List Span → List ℕ
places ws = map (λ w. w.place) ws

-- every gathered write stands below n
abbrev pub PlacesBelow : ℕ → List Span → Type 0
PlacesBelow n ws = (rank : ℕ) → rank < length ws → slice_index (places ws) rank < n

-- of the start of a read and one that may be held, the later one
abbrev pub later : Option ℕ → ℕ → ℕ
later None start = start
later (Some last) start = cond (nat_le start last) last start

-- the write at a place, before its reads are looked at
abbrev pub unread : List Operation → ℕ → Span
unread ops place = record { place = place; start = (at ops place).start; finish = (at ops place).finish; last_read = None }

-- the write as one more read leaves it
abbrev pub read_by : Span → Operation → Span
read_by w read = record { place = w.place; start = w.start; finish = min read.finish w.finish; last_read = Some (later w.last_read read.start) }

module _ (ops : List Operation) where
  -- whether the write of a rank has the bay and value of the operation at a place
  abbrev pub same_value : List Span → ℕ → ℕ → Bool
  same_value ws place rank = alike (at ops (slice_index (places ws) rank)) (at ops place)

  -- a write of the bay is the last now; or there are 64, and nothing changed
  abbrev pub WriteLast : List Span → ℕ → List Span → Result (Unit {0}) TooManyWrites → Type 0
  WriteLast was place is (Ok done) = (length was < 64) × (is ≡ was ++ (unread ops place ∷ []))
  WriteLast was place is (Err e) = (64 ≤ length was) × (is ≡ was)

  -- a write of the bay is the last now, and it is told whether an earlier one has its value; or there are 64, and nothing changed
  abbrev pub WriteAdded : List Span → ℕ → List Span → Result Bool TooManyWrites → Type 0
  WriteAdded was place is (Ok twice) =
      (length was < 64) × (is ≡ was ++ (unread ops place ∷ []))
      × ((rank : Option ℕ) × Lowest (length was) (same_value was place) rank × (twice ≡ is_some rank))
  WriteAdded was place is (Err e) = (64 ≤ length was) × (is ≡ was)

  -- the first write of a read's value is as the read leaves it now, and it is told whether the read is before it; or there is none
  abbrev pub ReadAdded : List Span → ℕ → List Span → Option Bool → Type 0
  ReadAdded was place is (Some foreseen) =
      (rank : ℕ) × (w : Span) × Lowest (length was) (same_value was place) (Some rank) × (w ≡ slice_index_or was rank w)
      × (foreseen ≡ nat_lt (at ops place).finish w.start) × (is ≡ slice_set was rank (read_by w (at ops place)))
  ReadAdded was place is None = Lowest (length was) (same_value was place) None × (is ≡ was)
