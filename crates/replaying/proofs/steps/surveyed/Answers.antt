use Rattle.std.proofs.Common.{Ok, Err, subst}
use Rattle.std.proofs.lemmas.Result.{err_from_is_err_and}
use Rattle.logs.specs.States.{state_of}
use Rattle.replaying.specs.Scripts.{bays_of}
use Rattle.replaying.specs.Surveys.{survey_rule, Surveys}
use Rattle.replaying.proofs.Going.{listed_entries, survey_goes}
use Rattle.replaying.proofs.steps.surveyed.Goals as goal

pub returns-in_err-report : goal.returns-in_err-report
returns-in_err-report g c =
    let rule = survey_rule g.V.Kind.meaning in
    let s = state_of c.args.storage.now in
    let r = Err c.in_err-report.field-0.0 in
    let p = err_from_is_err_and c.from_residual.result c.from_residual.ensures.1 in
    let same = listed_entries c.as_deref.result c.args.bays.now c.as_deref.ensures.value in
    rw (p.1, p.2) (survey_goes rule s (bays_of c.args.bays.now) c.args.limit r (subst (λ bays. Surveys rule s.ended bays c.args.limit r) same c.in_err-report.ensures.answer))

pub returns : goal.returns
returns g c =
    let rule = survey_rule g.V.Kind.meaning in
    let s = state_of c.args.storage.now in
    let r = Ok c.in_ok-report.report in
    let same = listed_entries c.as_deref.result c.args.bays.now c.as_deref.ensures.value in
    survey_goes rule s (bays_of c.args.bays.now) c.args.limit r (subst (λ bays. Surveys rule s.ended bays c.args.limit r) same c.in_ok-report.ensures.answer)
