-- Sets of numbers below 64 as masks of 64 bits. Assumes nothing.
use Rattle.std.specs.Prelude.{◌≡◌, ℕ, ◌/◌, ◌%◌, ◌^◌, ◌≤◌, Bool, ◌||◌, ◌==◌}

-- whether the mask has the bit
abbrev pub has_bit : ℕ → ℕ → Bool
has_bit mask bit = mask / 2 ^ bit % 2 == 1

-- the new mask has the bit and those of the old one; a mask has no bit above 63, so none is added there
pub record Added (mask bit new : ℕ) : Type 0 where
  pub below : bit ≤ 63 → (b : ℕ) → has_bit new b ≡ (has_bit mask b || bit == b)
  pub above : 64 ≤ bit → new ≡ mask
