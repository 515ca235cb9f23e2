use Rattle.std.proofs.Common.{◌≡◌, length}
use Rattle.lists.specs.Lists.{listed}
use Rattle.gathering.specs.Spans.{spans}
use Rattle.trying.specs.Edges.{EdgesOf}
use Rattle.trying.proofs.edges.edges_between.Given as goal

abbrev pub invariant-loop-rank : goal.invariant-loop-rank
invariant-loop-rank l = EdgesOf (spans l.writes) (listed l.edges) × (length (listed l.edges) ≡ l.rank)
