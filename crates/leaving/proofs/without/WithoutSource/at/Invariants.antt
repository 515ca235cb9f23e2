use Rattle.std.proofs.Common.{◌≡◌, ℕ, ◌+◌, ◌≤◌, length, filter}
use Rattle.std.specs.List.{slice_get}
use Rattle.leaving.specs.Leaving.{keeps}
use Rattle.operations.specs.Passes.{coming}
use Rattle.leaving.proofs.without.WithoutSource.at.Given as goal

abbrev pub invariant-loop-operation : goal.invariant-loop-operation
invariant-loop-operation g l =
    let shown = filter (keeps l.self.mask) (g.S.Source.operations l.self.below.now) in
    let left = filter (keeps l.self.mask) (coming g.S.Source.onward l.operation-iterator) in
    (l.passed ≤ l.place) × (length shown ≡ l.passed + length left) × ((j : ℕ) → slice_get shown (l.passed + j) ≡ slice_get left j)
