use Rattle.lists.specs.Lists.{listed}
use Rattle.relations.specs.Meanings.{told}
use Rattle.gathering.specs.Kept.{AllKept}
use Rattle.gathering.specs.Spans.{spans}
use Rattle.gathering.specs.Gathering.{Wrote}
use Rattle.gathering.proofs.gather.gather_writes.Given as goal

abbrev pub invariant-loop-place : goal.invariant-loop-place
invariant-loop-place g l =
    Wrote (told g.V.Kind.meaning l.rows) l.number l.place (spans (listed l.writes))
    × AllKept g.V.Kind.meaning l.rows (listed l.writes)
