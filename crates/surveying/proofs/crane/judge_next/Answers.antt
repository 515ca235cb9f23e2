use Rattle.std.proofs.Common.{arith}
use Rattle.std.proofs.lemmas.Result.{MatchResult-at_ok}
use Rattle.orders.proofs.LeastAges.{judgeable_bay}
use Rattle.relations.specs.Meanings.{told}
use Rattle.surveying.proofs.Found.{rows_judgeable, bay_told}
use Rattle.surveying.proofs.Refusing.{crane_is}
use Rattle.surveying.proofs.crane.judge_next.Goals as goal

pub unwrap-requires : goal.unwrap-requires
unwrap-requires g c =
    let few = c.requires.1.spared.few c.args.number (omega (arith, crane_is, c.requires.0)) in
    grind (arith, c.gather.ensures.gathered, few)

pub returns : goal.returns
returns g c =
    let gathered = MatchResult-at_ok _ _ _ c.unwrap.ensures c.gather.ensures.gathered in
    let ops = told g.V.Kind.meaning c.args.rows.now in
    let ready = judgeable_bay c.args.number (rows_judgeable g.V.Kind.meaning c.args.rows.now c.requires.1) in
    rw c.or.ensures (bay_told ops c.args.number c.args.left ready c.judge_bay.result (c.judge_bay.ensures ops c.args.number gathered ready))
