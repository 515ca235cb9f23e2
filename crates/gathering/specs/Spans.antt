-- What judging asks of a gathered write. Assumes nothing.
use Rattle.std.specs.Prelude.{ℕ, List, map, Some, None, Option}
use Rattle.operations.specs.declared.row.Row.{Row}
use Rattle.gathering.specs.declared.write.Write.{Write}

-- its place, its start, the finish that its reads leave it, and the start of the read of it that starts last
pub record Span : Type 0 where
  pub place : ℕ
  pub start : ℕ
  pub finish : ℕ
  pub last_read : Option ℕ

-- the start of a read that may be there
abbrev pub started : Option (Row (Unit {0})) → Option ℕ
started None = None
started (Some read) = Some read.start

abbrev pub span : Write → Span
span w = record { place = w.place; start = w.row.start; finish = w.row.finish; last_read = started w.last_read }

abbrev pub spans : List Write → List Span
spans ws = map span ws
