use Rattle.std.proofs.Common.{subst}
use Rattle.folders.proofs.Reports.{lent_contents}
use Rattle.operations.specs.Rooms.{held}
use Rattle.reports.specs.Reporting.{Accounted}
use Rattle.folders.proofs.folder.Folder.account.Goals as goal

pub returns : goal.returns
returns g c =
    let folder = c.args.self.now in
    subst (λ file. Accounted g.K.Written.words (held folder.table.rows) file c.account.result) (lent_contents c.as_deref.result folder.list c.as_deref.ensures.value) c.account.ensures
