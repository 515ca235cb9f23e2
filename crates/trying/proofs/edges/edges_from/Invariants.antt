use Rattle.gathering.specs.Spans.{span, spans}
use Rattle.trying.specs.Edges.{Bits, is_from}
use Rattle.trying.proofs.edges.edges_from.Given as goal

abbrev pub invariant-loop-rank : goal.invariant-loop-rank
invariant-loop-rank l = Bits l.rank (is_from (spans l.writes) l.from (span l.write)) l.mask
