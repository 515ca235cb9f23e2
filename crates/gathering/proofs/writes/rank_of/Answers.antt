use Rattle.std.proofs.Common.{sym, ◌∙◌, arith, below_more}
use Rattle.gathering.proofs.Blank.{blank}
use Rattle.gathering.proofs.Ranked.{write_below, same_write}
use Rattle.gathering.proofs.writes.rank_of.Goals as goal

pub bounds-rows-write : goal.bounds-rows-write
bounds-rows-write g c = write_below g.V.Kind.meaning c.args.rows.now c.args.writes.now c.requires.0 c.loop-rank.rank blank c.loop-rank-test.true

pub offset_bounds-rows-write : goal.offset_bounds-rows-write
offset_bounds-rows-write g c = omega (arith, write_below g.V.Kind.meaning c.args.rows.now c.args.writes.now c.requires.0 c.loop-rank.rank blank c.loop-rank-test.true)

pub returns-then-alike : goal.returns-then-alike
returns-then-alike g c =
    let same = same_write g.V.Kind.meaning c.args.rows.now c.args.writes.now c.requires.0 c.loop-rank.rank blank c.loop-rank-test.true c.args.place c.requires.1 c.index-rows-write.result c.index-rows-place.result c.index-rows-write.is c.index-rows-place.is in
    (c.loop-rank-test.true, same ∙ sym c.alike.ensures ∙ c.if-alike.true, c.loop-rank.invariant)

pub loop-rank-preserved : goal.loop-rank-preserved
loop-rank-preserved g c =
    let same = same_write g.V.Kind.meaning c.args.rows.now c.args.writes.now c.requires.0 c.loop-rank.rank blank c.loop-rank-test.true c.args.place c.requires.1 c.index-rows-write.result c.index-rows-place.result c.index-rows-write.is c.index-rows-place.is in
    below_more _ _ c.loop-rank.invariant (same ∙ sym c.alike.ensures ∙ c.if-alike.false)
