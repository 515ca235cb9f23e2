use Rattle.std.proofs.Common.{ℕ, length}
use Rattle.relations.specs.Meanings.{told}
use Rattle.gathering.specs.Spans.{spans}
use Rattle.gathering.specs.Gathering.{Wrote}
use Rattle.gathering.proofs.Twice.{TwiceBelow}
use Rattle.gathering.proofs.writes.first_twice.Given as goal

abbrev pub invariant-loop-rank : goal.invariant-loop-rank
invariant-loop-rank g l =
    (b : ℕ) → Wrote (told g.V.Kind.meaning l.rows) b (length l.rows) (spans l.writes) → TwiceBelow (told g.V.Kind.meaning l.rows) b (length l.rows) l.rank l.twice
