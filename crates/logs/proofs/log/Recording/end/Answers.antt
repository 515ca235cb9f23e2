use Rattle.std.proofs.Common.{Ok, Err, rules}
use Rattle.lives.specs.Life.{any_answer}
use Rattle.logs.specs.States.{state_of}
use Rattle.logs.specs.Steps.{Ends}
use Rattle.logs.proofs.Carrying.{end_carries}
use Rattle.logs.proofs.log.Recording.end.Goals as goal

pub returns-in-Ok-clause-life : goal.returns-in-Ok-clause-life
returns-in-Ok-clause-life g c =
    let s = c.args.storage.now in
    let t = c.args.ticket in
    let ends : Ends (λ e. e) (state_of s) (state_of c.end.new.self) g.A.Act.SORT t.cabinet t.begun c.args.value (Ok tt) = search rules in
    end_carries any_answer (state_of s) (state_of c.end.new.self) s.wide (λ e. e) g.A.Act.SORT t.cabinet t.begun c.args.value (Ok tt) ends

pub returns-in-Err-clause-life : goal.returns-in-Err-clause-life
returns-in-Err-clause-life g c =
    let s = c.args.storage.now in
    let t = c.args.ticket in
    let ends : Ends (λ e. e) (state_of s) (state_of c.end.new.self) g.A.Act.SORT t.cabinet t.begun c.args.value (Err c.in-Err.refusal) = search rules in
    end_carries any_answer (state_of s) (state_of c.end.new.self) s.wide (λ e. e) g.A.Act.SORT t.cabinet t.begun c.args.value (Err c.in-Err.refusal) ends
