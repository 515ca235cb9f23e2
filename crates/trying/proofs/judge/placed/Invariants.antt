use Rattle.std.proofs.Common.{◌≡◌, take}
use Rattle.lists.specs.Lists.{listed}
use Rattle.gathering.specs.Writes.{places}
use Rattle.gathering.specs.Spans.{spans}
use Rattle.trying.specs.Trying.{placed}
use Rattle.trying.proofs.judge.placed.Given as goal

abbrev pub invariant-loop-rank : goal.invariant-loop-rank
invariant-loop-rank l = listed l.places ≡ placed (places (spans l.writes)) (take l.rank-index l.ranks)
