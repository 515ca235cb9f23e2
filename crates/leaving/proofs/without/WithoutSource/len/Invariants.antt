use Rattle.std.proofs.Common.{◌≡◌, ◌+◌, length, filter}
use Rattle.leaving.specs.Leaving.{keeps}
use Rattle.operations.specs.Passes.{coming}
use Rattle.leaving.proofs.without.WithoutSource.len.Given as goal

abbrev pub invariant-loop-operation : goal.invariant-loop-operation
invariant-loop-operation g l =
    l.count + length (filter (keeps l.self.mask) (coming g.S.Source.onward l.operation-iterator))
    ≡ length (coming g.S.Source.onward l.operation-iterator) + length (filter (keeps l.self.mask) (g.S.Source.operations l.self.below.now))
