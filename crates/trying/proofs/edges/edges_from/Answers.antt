use Rattle.std.proofs.Common.{◌≡◌, ◌≤◌, not, ◌&&◌, eqb, sym, ap, ◌∙◌, subst, arith}
use Rattle.gathering.specs.Spans.{span, spans}
use Rattle.trying.specs.Edges.{Bits, before_last, is_from}
use Rattle.gathering.proofs.Blank.{blank}
use Rattle.trying.proofs.Masked.{write_last, bits_yes, bits_no}
use Rattle.trying.proofs.edges.edges_from.Goals as goal
use Rattle.trying.proofs.edges.edges_from.Goals.{then-read_edge, else-read_edge}

pub loop-rank-preserved : goal.loop-rank-preserved
loop-rank-preserved c =
    let ws = c.args.writes.now in
    let test = is_from (spans ws) c.args.from (span c.args.write.now) in
    let rank = c.loop-rank.rank in
    let small : rank ≤ 63 = omega (arith, c.requires, c.loop-rank-test.true) in
    let here : test rank ≡ c.read_edge.result = ap (λ last. not (eqb rank c.args.from) && before_last c.args.write.now.row.finish last) (write_last ws rank blank c.loop-rank-test.true) ∙ sym c.read_edge.ensures in
    elim c.if-read_edge.branch [
      | then-read_edge w ↦ subst (Bits _ test) (sym w.mask-is) (bits_yes rank test c.loop-rank.mask c.loop-rank.invariant w.with_bit-mask.result (here ∙ w.if-read_edge.true) small w.with_bit-mask.ensures)
      | else-read_edge w ↦ subst (Bits _ test) (sym w.mask-is) (bits_no rank test c.loop-rank.mask c.loop-rank.invariant (here ∙ w.if-read_edge.false))
    ]
