-- What is read of a file. Assumes nothing.
use Rattle.std.specs.Prelude.{ℕ, ◌≤◌, Some, None, vec_len, Option}
use Rattle.std.specs.Global.{Vec}

-- no more than so many bytes, where there is a file
abbrev pub AtMost : ℕ → Option (Vec ℕ) → Type 0
AtMost most None = Unit {0}
AtMost most (Some bytes) = vec_len bytes ≤ most
