use Rattle.std.proofs.Common.{◌≡◌, ℕ, ◌-◌, ◌*◌, ◌<◌, length, get_or, None}
use Rattle.operations.specs.Checks.{first_failed, each_below}
use Rattle.operations.specs.Rooms.{held}
use Rattle.tables.specs.Lists.{bay_checks}
use Rattle.words.specs.Words.{word, content}
use Rattle.tables.proofs.list.open_list.Given as goal

abbrev pub invariant-loop-bays : goal.invariant-loop-bays
invariant-loop-bays l =
    (l.words.bytes.now ≡ l.bytes)
    × (l.words.word ≡ length (held l.bays))
    × (first_failed (each_below (length (held l.bays)) (bay_checks l.bytes)) ≡ None)
    × ((i d : ℕ) → i < length (held l.bays) → get_or (held l.bays) i d ≡ content (word l.bytes i))

abbrev pub decreases-loop-bays : goal.decreases-loop-bays
decreases-loop-bays l = length l.words.bytes.now - 4 * l.words.word
