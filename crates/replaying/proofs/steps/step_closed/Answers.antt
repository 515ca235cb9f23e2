use Rattle.std.proofs.Common.{true, false, Ok, sym, refl, subst}
use Rattle.lives.specs.Calls.{Reopened}
use Rattle.logs.specs.States.{state_of}
use Rattle.replaying.specs.Runs.{Goes}
use Rattle.replaying.specs.Scripts.{meant}
use Rattle.replaying.specs.Surveys.{survey_rule}
use Rattle.replaying.specs.declared.answer.Accepted.TheVariants as accepted
use Rattle.replaying.proofs.Going.{goes}
use Rattle.replaying.proofs.steps.step_closed.Goals as goal

pub returns-in-Reopen : goal.returns-in-Reopen
returns-in-Reopen g c =
    let rule = survey_rule g.V.Kind.meaning in
    let s = state_of c.args.storage.now in
    let t = state_of c.reopen.new.storage in
    subst (λ call. Goes rule false true s t (meant call) (Ok accepted.Reopened)) (sym c.in-Reopen.is)
    (goes rule s t false true Reopened refl (λ es at. refl) c.reopen.ensures.life)
