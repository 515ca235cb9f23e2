-- The graph that two tables of masks say. Assumes nothing.
use Rattle.std.specs.Prelude.{ℕ, List, nat_lt, slice_index}
use Rattle.masks.specs.Masks.{has_bit}
use Rattle.orders.specs.RunUps.{Graph}

-- `before` has for each write v the mask of the writes with a write edge into v; `behind` has for each write u the mask of the writes that u has a read edge to
abbrev pub mask_graph : (n : ℕ) (before behind : List ℕ) → Graph
mask_graph n before behind = record {
  write = λ p. nat_lt p n;
  write_edge = λ u v. has_bit (slice_index before v) u;
  read_edge = λ u v. has_bit (slice_index behind u) v;
}
