use Rattle.std.proofs.Common.{◌≡◌, ◌++◌}
use Rattle.operations.specs.Passes.{coming}
use Rattle.operations.specs.Rooms.{held}
use Rattle.operations.proofs.copying.copy.Given as goal

abbrev pub invariant-loop-operation : goal.invariant-loop-operation
invariant-loop-operation g l = held l.room ++ coming g.S.Source.onward l.operation-iterator ≡ g.S.Source.operations l.source
