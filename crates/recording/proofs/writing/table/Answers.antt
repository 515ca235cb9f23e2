use Rattle.std.proofs.Common.{◌≤◌, Some, List, ℕ, length, sym, subst, ap, ◌∙◌, arith}
use Rattle.std.proofs.lemmas.List.{take_all}
use Rattle.recording.specs.Files.{table_bytes}
use Rattle.recording.proofs.Reading.{shows}
use Rattle.tables.specs.Records.{Shows}
use Rattle.recording.proofs.writing.table.Goals as goal

pub returns-clause-reads : goal.returns-clause-reads
returns-clause-reads c = λ h.
    let all : length c.args.rows.now ≤ c.loop-row.row-index = omega arith in
    let written = c.loop-row.invariant ∙ ap table_bytes (take_all c.loop-row.row-index c.args.rows.now all) in
    subst (λ (bytes : List ℕ). Shows Some bytes c.args.rows.now) (sym written) (shows c.args.rows.now h)
