use Rattle.std.proofs.Common.{◌≡◌, length, filter}
use Rattle.leaving.specs.Leaving.{keeps}
use Rattle.leaving.proofs.without.WithoutSource.next.Given as goal

abbrev pub invariant-loop-step : goal.invariant-loop-step
invariant-loop-step g l = filter (keeps l.self.mask) (g.S.Source.onward l.self.below.now l.position) ≡ filter (keeps l.self.mask) (g.S.Source.onward l.self.below.now l.from)

abbrev pub decreases-loop-step : goal.decreases-loop-step
decreases-loop-step g l = length (g.S.Source.onward l.self.below.now l.from)
