use Rattle.std.proofs.Common.{◌≡◌, ◌+◌, length, sym, subst, arith}
use Rattle.std.proofs.lemmas.List.{length_push}
use Rattle.std.proofs.lemmas.Result.{MatchResult-at_ok}
use Rattle.lists.specs.Lists.{listed}
use Rattle.searching.specs.declared.edges.EdgeMasks.{EdgeMasks}
use Rattle.gathering.specs.Spans.{spans}
use Rattle.trying.specs.Edges.{EdgesOf}
use Rattle.gathering.proofs.Blank.{blank}
use Rattle.trying.proofs.Masked.{edges_more_write}
use Rattle.trying.proofs.edges.edges_between.Goals as goal

pub loop-rank-preserved : goal.loop-rank-preserved
loop-rank-preserved c =
    let ws = c.as_slice-writes.result.now in
    let edges = listed c.loop-rank.edges in
    let masks : EdgeMasks = record { before = c.edges_into.result; behind = c.edges_from.result } in
    let inv = c.loop-rank.invariant in
    let pushed = MatchResult-at_ok _ _ _ c.unwrap.ensures c.push.ensures in
    subst (λ l. EdgesOf (spans ws) l × (length l ≡ c.loop-rank.rank + 1)) (sym pushed.1) (
      edges_more_write ws edges c.loop-rank.rank blank masks inv.0 inv.1 c.loop-rank-test.true c.edges_into.ensures c.edges_from.ensures,
      omega (arith, length_push edges masks, inv.1),
    )

pub returns-clause-edges : goal.returns-clause-edges
returns-clause-edges c = subst (λ ws. EdgesOf (spans ws) (listed c.loop-rank.edges)) c.as_slice-writes.ensures.value c.loop-rank.invariant.0
