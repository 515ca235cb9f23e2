use Rattle.std.proofs.Common.{rules}
use Rattle.lives.specs.Life.{any_answer}
use Rattle.logs.specs.States.{state_of}
use Rattle.logs.specs.Steps.{Loses}
use Rattle.logs.proofs.Carrying.{lose_carries}
use Rattle.logs.proofs.log.Recording.lose.Goals as goal

pub returns-clause-life : goal.returns-clause-life
returns-clause-life g c =
    let s = c.args.storage.now in
    let t = c.args.ticket in
    let loses : Loses (state_of s) (state_of c.lose.new.self) g.A.Act.SORT t.cabinet t.begun c.lose.result = search rules in
    lose_carries any_answer (state_of s) (state_of c.lose.new.self) s.wide g.A.Act.SORT t.cabinet t.begun c.lose.result loses
