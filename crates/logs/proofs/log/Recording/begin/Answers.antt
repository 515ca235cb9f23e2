use Rattle.std.proofs.Common.{Ok, Err, refl, rules}
use Rattle.lives.specs.Life.{any_answer}
use Rattle.logs.specs.States.{state_of}
use Rattle.logs.specs.Steps.{ticket, Begins}
use Rattle.logs.specs.declared.ticket.Ticket.{Ticket}
use Rattle.logs.proofs.Carrying.{begin_carries}
use Rattle.logs.proofs.log.Recording.begin.Goals as goal

pub returns-in_err-begun-clause-life : goal.returns-in_err-begun-clause-life
returns-in_err-begun-clause-life g c =
    let s = c.args.storage.now in
    let carries = begin_carries any_answer (state_of s) (state_of c.begin.new.self) s.wide {T = Ticket g.row.A.Denot} (ticket c.args.cabinet) (λ t. t.begun) (λ n. refl) g.A.Act.SORT c.args.cabinet c.args.bay (Err c.in_err-begun.field-0.0) c.in_err-begun.ensures.answer in
    search rules

pub returns-clause-life : goal.returns-clause-life
returns-clause-life g c =
    let s = c.args.storage.now in
    let begins : Begins (λ n. n) (state_of s) (state_of c.begin.new.self) g.A.Act.SORT c.args.cabinet c.args.bay (Ok c.in_ok-begun.begun) = search rules in
    let carries = begin_carries any_answer (state_of s) (state_of c.begin.new.self) s.wide (λ n. n) (λ n. n) (λ n. refl) g.A.Act.SORT c.args.cabinet c.args.bay (Ok c.in_ok-begun.begun) begins in
    search rules
