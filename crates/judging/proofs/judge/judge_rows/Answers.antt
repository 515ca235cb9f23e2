use Rattle.std.proofs.Common.{arith}
use Rattle.relations.specs.Meanings.{told}
use Rattle.relations.proofs.Told.{told_timed}
use Rattle.judging.proofs.Found.{bay_judgeable, rows_told}
use Rattle.judging.proofs.judge.judge_rows.Goals as goal

pub returns : goal.returns
returns g c =
    let ops = told g.V.Kind.meaning c.args.rows.now in
    let bay = c.gather_spared.new.self in
    let found = c.in-Ok.ensures.gathered in
    let ready = bay_judgeable ops c.args.bay bay found.0 c.args.limit found.1 (told_timed g.V.Kind.meaning c.args.rows.now c.requires.1) in
    rw c.or.ensures (rows_told ops c.args.bay bay found.0 c.args.limit found.1 c.judge_bay.result ready (c.judge_bay.ensures ops c.args.bay found.0 ready) (omega arith))
