use Rattle.gathering.specs.Spans.{span, spans}
use Rattle.trying.specs.Edges.{Bits, is_into}
use Rattle.trying.proofs.edges.edges_into.Given as goal

abbrev pub invariant-loop-rank : goal.invariant-loop-rank
invariant-loop-rank l = Bits l.rank (is_into (spans l.writes) (span l.into)) l.mask
