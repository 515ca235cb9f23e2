use Rattle.lists.specs.Lists.{listed}
use Rattle.relations.specs.Meanings.{told}
use Rattle.gathering.specs.Kept.{AllKept}
use Rattle.gathering.specs.Spans.{spans}
use Rattle.gathering.specs.Gathering.{Seen, ReadsUpTo}
use Rattle.gathering.proofs.gather.gather_reads.Given as goal

abbrev pub invariant-loop-place : goal.invariant-loop-place
invariant-loop-place g l =
    Seen (told g.V.Kind.meaning l.rows) l.number l.place (spans (listed l.writes))
    × ReadsUpTo (told g.V.Kind.meaning l.rows) l.number l.place l.reads
    × (AllKept g.V.Kind.meaning l.rows (listed l.initial.writes) → AllKept g.V.Kind.meaning l.rows (listed l.writes))
