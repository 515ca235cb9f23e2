use Rattle.std.proofs.Common.{true, refl}
use Rattle.lives.specs.Refusals.{log_refusal}
use Rattle.lives.specs.Calls.{Lost, Refused, Lose}
use Rattle.logs.specs.States.{state_of}
use Rattle.replaying.specs.Surveys.{survey_rule}
use Rattle.replaying.proofs.Going.{goes}
use Rattle.replaying.proofs.steps.lose.Goals as goal

pub returns-in-Ok : goal.returns-in-Ok
returns-in-Ok g c =
    let name = c.args.name in
    goes (survey_rule g.V.Kind.meaning) (state_of c.args.storage.now) (state_of c.lose.new.storage) true true
    (Lost name.sort name.cabinet name.begun) refl (λ es at. at) (c.in-Ok.ensures name c.in_ok-ticket.ensures)

pub returns-in-Err : goal.returns-in-Err
returns-in-Err g c =
    let name = c.args.name in
    rw c.into.ensures
    (goes (survey_rule g.V.Kind.meaning) (state_of c.args.storage.now) (state_of c.lose.new.storage) true true
    (Refused (Lose name.sort name.cabinet name.begun) (log_refusal c.in-Err.refusal))
    refl (λ es at. at) (c.in-Err.ensures name c.in_ok-ticket.ensures))
