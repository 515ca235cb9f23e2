use Rattle.std.proofs.Common.{◌+◌, not, length, subst, sym, ap, ◌∙◌, arith}
use Rattle.relations.specs.Meanings.{told}
use Rattle.gathering.proofs.Blank.{blank}
use Rattle.gathering.proofs.Ranked.{write_below}
use Rattle.gathering.proofs.Twice.{TwiceBelow, rows_once, rows_twice, rows_known, still_twice, once_so_far, none_twice}
use Rattle.gathering.proofs.writes.first_twice.Goals as goal
use Rattle.gathering.proofs.writes.first_twice.Goals.{then-is_none+then-first-rank, then-is_none+else-first-rank, else-is_none}

pub rank_of-requires : goal.rank_of-requires
rank_of-requires g c = (c.requires, write_below g.V.Kind.meaning c.args.rows.now c.args.writes.now c.requires c.loop-rank.rank blank c.loop-rank-test.true)

pub loop-rank-preserved : goal.loop-rank-preserved
loop-rank-preserved g c b wrote =
    let m = g.V.Kind.meaning in
    let rows = c.args.rows.now in
    let ops = told m rows in
    let ws = c.args.writes.now in
    let n = length rows in
    let i = c.loop-rank.rank in
    let so_far = c.loop-rank.invariant b wrote in
    elim c.if-is_none.branch [
      | then-is_none+then-first-rank w ↦
          let once = once_so_far ops b n i c.loop-rank.twice (c.is_none.ensures ∙ ap not w.if-is_none.true) so_far in
          subst (TwiceBelow ops b n (i + 1)) (sym w.twice-is) (rows_twice m rows ws c.requires b wrote i blank c.loop-rank-test.true w.rank_of.result w.rank_of.ensures once (omega (arith, w.unwrap_or-first.ensures, w.if-first-rank.true)))
      | then-is_none+else-first-rank w ↦
          let none = c.is_none.ensures ∙ ap not w.if-is_none.true in
          let once = once_so_far ops b n i c.loop-rank.twice none so_far in
          subst (TwiceBelow ops b n (i + 1)) (sym (w.twice-is ∙ none_twice c.loop-rank.twice none)) (rows_once m rows ws c.requires b wrote i blank c.loop-rank-test.true w.rank_of.result w.rank_of.ensures once (omega (arith, w.unwrap_or-first.ensures, w.if-first-rank.false)))
      | else-is_none w ↦ subst (TwiceBelow ops b n (i + 1)) (sym w.twice-is) (still_twice ops b n i c.loop-rank.twice (c.is_none.ensures ∙ ap not w.if-is_none.false) so_far)
    ]

pub returns : goal.returns
returns g c b wrote =
    rows_known g.V.Kind.meaning c.args.rows.now c.args.writes.now c.requires b wrote c.loop-rank.twice
    (subst (λ i. TwiceBelow (told g.V.Kind.meaning c.args.rows.now) b (length c.args.rows.now) i c.loop-rank.twice) (omega arith) (c.loop-rank.invariant b wrote))
