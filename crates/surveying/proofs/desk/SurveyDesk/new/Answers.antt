use Rattle.std.proofs.lemmas.Result.{err_from_is_err_and}
use Rattle.surveying.proofs.desk.SurveyDesk.new.Goals as goal

pub returns-in_err-findings : goal.returns-in_err-findings
returns-in_err-findings g c = let p = err_from_is_err_and c.from_residual-in_err-findings.result c.from_residual-in_err-findings.ensures.1 in rw p.1 tt

pub returns-in_err-orders : goal.returns-in_err-orders
returns-in_err-orders g c = let p = err_from_is_err_and c.from_residual-in_err-orders.result c.from_residual-in_err-orders.ensures.1 in rw p.1 tt
