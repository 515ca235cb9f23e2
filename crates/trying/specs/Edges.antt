-- The edges between the gathered writes of a bay, by rank. Assumes nothing.
use Rattle.std.specs.Prelude.{◌≡◌, ℕ, ◌<◌, Bool, false, not, ◌&&◌, List, map, length, Some, None, Option, ◌==◌, nat_lt, slice_index, slice_index_or}
use Rattle.masks.specs.Masks.{has_bit}
use Rattle.gathering.specs.Spans.{Span}
use Rattle.searching.specs.declared.edges.EdgeMasks.{EdgeMasks}

-- the mask has exactly those below n that pass the test
abbrev pub Bits : ℕ → (ℕ → Bool) → ℕ → Type 0
Bits n test mask = (i : ℕ) → has_bit mask i ≡ (nat_lt i n && test i)

-- whether what has this finish is before a read that may start there
abbrev pub before_last : ℕ → Option ℕ → Bool
before_last finish (Some start) = nat_lt finish start
before_last finish None = false

-- the finishes that their reads leave the writes
abbrev pub finishes : List Span → List ℕ
finishes ws = map (λ w. w.finish) ws

-- the starts of the last reads of the writes
abbrev pub last_reads : List Span → List (Option ℕ)
last_reads ws = map (λ w. w.last_read) ws

-- the write of rank u, shortened, is before the write v
abbrev pub is_into : List Span → Span → ℕ → Bool
is_into ws v u = nat_lt (slice_index (finishes ws) u) v.start

-- the write u, shortened, of this rank is before the last read of the write of another rank v
abbrev pub is_from : List Span → ℕ → Span → ℕ → Bool
is_from ws from u v = not (v == from) && before_last u.finish (slice_index_or (last_reads ws) v None)

-- the write of a rank has these edges: the writes with a write edge into it, and those that it has a read edge to
abbrev pub EdgesAt : List Span → ℕ → EdgeMasks → Type 0
EdgesAt ws rank masks = (w : Span) → w ≡ slice_index_or ws rank w → Bits (length ws) (is_into ws w) masks.before × Bits (length ws) (is_from ws rank w) masks.behind

-- those of the first writes, by rank
abbrev pub EdgesOf : List Span → List EdgeMasks → Type 0
EdgesOf ws edges = (rank : ℕ) (d : EdgeMasks) → rank < length edges → EdgesAt ws rank (slice_index_or edges rank d)
