use Rattle.std.proofs.Common.{◌≡◌, ℕ, ◌-◌, ◌*◌, ◌<◌, length, get_or, None}
use Rattle.operations.specs.Rooms.{held}
use Rattle.operations.specs.declared.row.Row.{Row}
use Rattle.operations.specs.Checks.{first_failed, each_below}
use Rattle.tables.specs.Records.{record_checks, RecordAt}
use Rattle.tables.proofs.table.Table.open.Given as goal

abbrev pub invariant-loop-rows : goal.invariant-loop-rows
invariant-loop-rows g l =
    (l.words.bytes.now ≡ l.bytes)
    × (l.words.word ≡ 3 * length (held l.rows))
    × (first_failed (each_below (length (held l.rows)) (record_checks g.K.Kind.reads l.bytes)) ≡ None)
    × ((i : ℕ) (d : Row g.row.K.Denot) → i < length (held l.rows) → RecordAt g.K.Kind.reads l.bytes i (get_or (held l.rows) i d))

abbrev pub decreases-loop-rows : goal.decreases-loop-rows
decreases-loop-rows g l = length l.words.bytes.now - 4 * l.words.word
