-- What the steps of the search do to the writes that stand. Assumes nothing.
use Rattle.std.specs.Prelude.{◌≡◌, ℕ, ◌+◌, ◌-◌, ◌^◌, ◌<◌, ◌≤◌, Bool, cond, not, ◌&&◌, length, replicate, ◌==◌, bit_and, bit_xor, nat_le, slice_index, slice_set}
use Rattle.searching.specs.declared.standing.Standing.{Standing}

-- a write may stand next: it does not stand, all with a write edge into it do, and none that it has a read edge to is far
abbrev pub free : (write before behind absent far : ℕ) → Bool
free write before behind absent far = not (bit_and absent (2 ^ write) == 0) && (bit_and before absent == 0 && bit_and behind far == 0)

-- there is room for 64 writes, each a number below 64
pub record Holds (s : Standing) : Type 0 where
  pub room : length s.writes ≡ 64
  pub small : (i : ℕ) → i < s.count → slice_index s.writes i < 64
  pub within : s.count ≤ 64

-- no write stands, of the n that there are
abbrev pub started : ℕ → Standing
started n = record { writes = replicate 64 0; count = 0; absent = 2 ^ n - 1; far = 0 }

-- the write k places from the end changes sides: it is far now, or no longer
abbrev pub moved : ℕ → Standing → Standing
moved k s = record {
  writes = s.writes;
  count = s.count;
  absent = s.absent;
  far = cond (nat_le k s.count) (bit_xor s.far (2 ^ slice_index s.writes (s.count - k))) s.far;
}

-- one more stands
abbrev pub pushed : ℕ → ℕ → Standing → Standing
pushed k write s = moved k (record {
  writes = slice_set s.writes s.count write;
  count = s.count + 1;
  absent = bit_xor s.absent (2 ^ write);
  far = s.far;
})

-- the last one stands no more
abbrev pub popped : ℕ → Standing → Standing
popped k s = record {
  writes = s.writes;
  count = s.count - 1;
  absent = bit_xor s.absent (2 ^ slice_index s.writes (s.count - 1));
  far = (moved k s).far;
}
