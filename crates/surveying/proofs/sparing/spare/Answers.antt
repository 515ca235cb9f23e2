use Rattle.std.proofs.lemmas.Result.{err_from_is_err_and}
use Rattle.relations.specs.Meanings.{told}
use Rattle.surveying.proofs.Refusing.{refuses_fault, spared}
use Rattle.surveying.proofs.sparing.spare.Goals as goal

pub returns-in_err-found : goal.returns-in_err-found
returns-in_err-found g c =
    let p = err_from_is_err_and c.from_residual.result c.from_residual.ensures.1 in
    rw (p.1, p.2) c.in_err-found.ensures

pub returns-in_err-spare : goal.returns-in_err-spare
returns-in_err-spare g c =
    let p = err_from_is_err_and c.from_residual-in_err-spare.result c.from_residual-in_err-spare.ensures.1 in
    let found = c.in_ok-found.ensures in
    rw p.1 (refuses_fault (told g.V.Kind.meaning c.args.rows.now) c.in_ok-found.found found.0 found.1 c.in_err-spare.field-0.0 p.0 c.in_err-spare.ensures p.2)

pub returns : goal.returns
returns g c =
    let found = c.in_ok-found.ensures in
    spared (told g.V.Kind.meaning c.args.rows.now) c.in_ok-found.found found.0 found.1 c.in_ok-spare.ensures
