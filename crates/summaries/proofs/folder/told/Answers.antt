use Rattle.std.proofs.Common.{inr}
use Rattle.std.proofs.lemmas.Result.{err_from_is_err_and}
use Rattle.folders.proofs.Reports.{unopened}
use Rattle.summaries.specs.Summarising.{Summarised}
use Rattle.summaries.proofs.folder.told.Goals as goal

pub returns-in_err-folder : goal.returns-in_err-folder
returns-in_err-folder g c =
    let p = err_from_is_err_and c.from_residual.result c.from_residual.ensures.1 in
    rw (p.1, p.2) (unopened g.K.Kind.reads (λ rows. Summarised g.K.Kind.meaning rows 1000000) c.in_err-folder.field-0.0 c.in_err-folder.ensures)

pub returns-in_err-text : goal.returns-in_err-text
returns-in_err-text g c =
    let p = err_from_is_err_and c.from_residual-in_err-text.result c.from_residual-in_err-text.ensures.1 in
    let folder = c.in_ok-folder.folder in
    rw (p.1, p.2) (inr (folder, c.in_ok-folder.ensures, c.in_err-text.ensures))

pub returns : goal.returns
returns g c =
    let folder = c.in_ok-folder.folder in
    (folder, c.in_ok-folder.ensures, c.in_ok-text.ensures)
