use Rattle.std.proofs.Common.{◌≡◌, ℕ, ◌<◌, false}
use Rattle.relations.specs.Meanings.{told}
use Rattle.gathering.specs.Spans.{spans}
use Rattle.gathering.specs.Writes.{same_value}
use Rattle.gathering.proofs.writes.rank_of.Given as goal

abbrev pub invariant-loop-rank : goal.invariant-loop-rank
invariant-loop-rank g l = (i : ℕ) → i < l.rank → same_value (told g.V.Kind.meaning l.rows) (spans l.writes) l.place i ≡ false
