use Rattle.std.proofs.Common.{true, refl}
use Rattle.std.proofs.lemmas.Result.{err_from_is_err_and}
use Rattle.lives.specs.Refusals.{log_refusal}
use Rattle.replaying.specs.Tickets.{tick_of}
use Rattle.lives.specs.Calls.{Begun, Refused, Begin}
use Rattle.logs.specs.States.{state_of}
use Rattle.replaying.specs.Surveys.{survey_rule}
use Rattle.replaying.proofs.Going.{goes}
use Rattle.replaying.proofs.steps.begin.Goals as goal

pub returns-in_err-ticket : goal.returns-in_err-ticket
returns-in_err-ticket g c =
    let p = err_from_is_err_and c.from_residual.result c.from_residual.ensures.1 in
    rw (p.1, p.2)
    (goes (survey_rule g.V.Kind.meaning) (state_of c.args.storage.now) (state_of c.begin.new.storage) true true
    (Refused (Begin c.args.sort c.args.cabinet c.args.bay) (log_refusal c.in_err-ticket.field-0.0))
    refl (λ es at. at) c.in_err-ticket.ensures.life)

pub returns : goal.returns
returns g c =
    rw c.name-tick.ensures.begun
    (goes (survey_rule g.V.Kind.meaning) (state_of c.args.storage.now) (state_of c.begin.new.storage) true true
    (Begun c.args.sort c.args.cabinet c.args.bay (tick_of c.in_ok-ticket.ticket))
    refl (λ es at. at) c.in_ok-ticket.ensures.life)
