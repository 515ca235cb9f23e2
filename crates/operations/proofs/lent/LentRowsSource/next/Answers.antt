use Rattle.std.proofs.Common.{rules}
use Rattle.std.proofs.lemmas.List.{drop_all}
use Rattle.operations.proofs.Places.{nth_within, nth_drop}
use Rattle.operations.proofs.lent.LentRowsSource.next.Goals as goal

pub returns-in_err-operation : goal.returns-in_err-operation
returns-in_err-operation g c = rw c.from_residual.ensures (drop_all c.args.position c.args.self.now.rows.now c.in_err-operation.ensures)

pub overflow_add-result : goal.overflow_add-result
overflow_add-result g c =
    let within = nth_within c.args.self.now.rows.now c.args.position c.in_ok-operation.operation.row c.in_ok-operation.ensures in
    search rules

pub returns : goal.returns
returns g c = nth_drop c.args.self.now.rows.now c.args.position c.in_ok-operation.operation.row c.in_ok-operation.ensures
