use Rattle.std.proofs.Common.{◌≡◌, take}
use Rattle.recording.specs.Files.{table_bytes}
use Rattle.recording.proofs.writing.table.Given as goal

abbrev pub invariant-loop-row : goal.invariant-loop-row
invariant-loop-row l = l.bytes.items ≡ table_bytes (take l.row-index l.rows)
