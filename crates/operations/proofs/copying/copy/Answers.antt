use Rattle.std.proofs.Common.{arith}
use Rattle.std.proofs.lemmas.Result.{err_from_is_err_and}
use Rattle.operations.specs.Passes.{coming}
use Rattle.operations.specs.Rooms.{held}
use Rattle.operations.proofs.Passes.{copy_more, copy_fits, copy_all}
use Rattle.operations.proofs.copying.copy.Goals as goal

pub loop-operation-preserved : goal.loop-operation-preserved
loop-operation-preserved g c =
    copy_more (held c.loop-operation.room) (coming g.S.Source.onward c.loop-operation.operation-iterator) (g.S.Source.operations c.args.source.now) c.loop-operation.invariant _ _ _ _ c.in-Some.ensures.steps c.row.ensures c.in_ok-push.ensures

pub returns-in_err-push : goal.returns-in_err-push
returns-in_err-push g c =
    let p = err_from_is_err_and c.from_residual.result c.from_residual.ensures.1 in
    let fits = copy_fits (held c.loop-operation.room) (coming g.S.Source.onward c.loop-operation.operation-iterator) (g.S.Source.operations c.args.source.now) c.loop-operation.invariant _ _ c.in-Some.ensures.steps in
    rw p.1 (omega (arith, c.in_err-push.ensures.0))

pub returns : goal.returns
returns g c =
    copy_all (held c.loop-operation.room) (coming g.S.Source.onward c.loop-operation.operation-iterator) (g.S.Source.operations c.args.source.now) c.loop-operation.invariant c.in-None.ensures.steps.0
