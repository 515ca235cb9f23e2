use Rattle.std.proofs.Common.{true, refl}
use Rattle.lives.specs.Refusals.{log_refusal}
use Rattle.lives.specs.Calls.{Ended, Refused, End}
use Rattle.logs.specs.States.{state_of}
use Rattle.replaying.specs.Surveys.{survey_rule}
use Rattle.replaying.proofs.Going.{goes}
use Rattle.replaying.proofs.steps.end.Goals as goal

pub returns-in-Ok : goal.returns-in-Ok
returns-in-Ok g c =
    let name = c.args.name in
    goes (survey_rule g.V.Kind.meaning) (state_of c.args.storage.now) (state_of c.end.new.storage) true true
    (Ended name.sort name.cabinet name.begun c.args.value) refl (λ es at. at) (c.in-Ok.ensures name c.in_ok-ticket.ensures)

pub returns-in-Err : goal.returns-in-Err
returns-in-Err g c =
    let name = c.args.name in
    rw c.into.ensures
    (goes (survey_rule g.V.Kind.meaning) (state_of c.args.storage.now) (state_of c.end.new.storage) true true
    (Refused (End name.sort name.cabinet name.begun c.args.value) (log_refusal c.in-Err.field-0.refusal))
    refl (λ es at. at) (c.in-Err.ensures name c.in_ok-ticket.ensures))
