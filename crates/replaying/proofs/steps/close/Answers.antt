use Rattle.std.proofs.Common.{true, false, refl}
use Rattle.lives.specs.Refusals.{log_refusal}
use Rattle.lives.specs.Calls.{Closed, Refused, Close}
use Rattle.logs.specs.States.{state_of}
use Rattle.replaying.specs.Surveys.{survey_rule}
use Rattle.replaying.proofs.Going.{goes}
use Rattle.replaying.proofs.steps.close.Goals as goal

pub returns-in-Ok : goal.returns-in-Ok
returns-in-Ok g c =
    let s = state_of c.args.storage.now in
    goes (survey_rule g.V.Kind.meaning) s s true false Closed refl (λ es at. refl) c.in-Ok.ensures.life

pub returns-in-Err : goal.returns-in-Err
returns-in-Err g c =
    let s = state_of c.args.storage.now in
    rw c.into.ensures (goes (survey_rule g.V.Kind.meaning) s s true true (Refused Close (log_refusal c.in-Err.field-0.refusal)) refl (λ es at. at) c.in-Err.ensures.life)
