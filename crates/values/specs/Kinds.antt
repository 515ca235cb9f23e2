-- What a kind of value says of its patterns. Assumes nothing.
use Rattle.std.specs.Prelude.{◌≡◌, ℕ, ◌^◌, ◌<◌, Some, Option}

-- some pattern of 18 bits stands for the value
pub record Spelled {V : Type 0} (reads : ℕ → Option V) (value : V) : Type 0 where
  pub pattern : ℕ
  pub narrow : pattern < 2 ^ 18
  pub is : reads pattern ≡ Some value
