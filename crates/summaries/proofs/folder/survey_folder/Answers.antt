use Rattle.std.proofs.Common.{subst}
use Rattle.folders.proofs.Reports.{lent_contents}
use Rattle.operations.specs.Rooms.{held}
use Rattle.summaries.specs.Summarising.{Summarised}
use Rattle.summaries.proofs.folder.survey_folder.Goals as goal

pub returns : goal.returns
returns g c =
    let folder = c.args.folder.now in
    subst (λ file. Summarised g.K.Kind.meaning (held folder.table.rows) c.args.limit file c.summary.result) (lent_contents c.as_deref.result folder.list c.as_deref.ensures.value) c.summary.ensures
