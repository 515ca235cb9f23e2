use Rattle.std.proofs.Common.{◌≡◌, ◌<◌, subst, arith, below_more}
use Rattle.relations.specs.Meanings.{told}
use Rattle.surveying.specs.Faults.{FaultsOf, FewWrites}
use Rattle.surveying.specs.Surveying.{crane_bays}
use Rattle.surveying.proofs.Lowering.{bays_below, faults_none, faults_more, faults_all}
use Rattle.surveying.proofs.Refusing.{crane_is, told_inside, gathered_few, gathered_faults, refuses_12}
use Rattle.surveying.proofs.sparing.faults.Goals as goal

pub returns-in_default : goal.returns-in_default
returns-in_default g c =
    let inside : c.loop-number.number < crane_bays = omega (arith, crane_is) in
    refuses_12 (told g.V.Kind.meaning c.args.rows.now) c.loop-number.number inside c.loop-number.invariant.0 c.in_default.ensures.gathered

pub loop-number-init : goal.loop-number-init
loop-number-init g c = (λ b h. absurd (omega arith), faults_none (told g.V.Kind.meaning c.args.rows.now) c.default-found.result c.default-found.ensures)

pub loop-number-preserved : goal.loop-number-preserved
loop-number-preserved g c =
    let ops = told g.V.Kind.meaning c.args.rows.now in
    let number = c.loop-number.number in let bay = c.gather.new.self in
    let gathered = c.in-Ok.ensures.gathered in (
      below_more _ _ c.loop-number.invariant.0 (gathered_few ops number bay gathered),
      rw c.join-found.ensures (faults_more ops number c.loop-number.found bay.faults c.loop-number.invariant.1 (gathered_faults ops number bay gathered)),
    )

pub returns : goal.returns
returns g c =
    let ops = told g.V.Kind.meaning c.args.rows.now in
    let ended : c.loop-number.number ≡ crane_bays = omega (arith, crane_is) in
    (subst (FewWrites ops) ended c.loop-number.invariant.0, faults_all ops c.loop-number.found (told_inside g.V.Kind.meaning c.args.rows.now c.requires) (subst (λ n. FaultsOf ops (bays_below n) c.loop-number.found) ended c.loop-number.invariant.1))
