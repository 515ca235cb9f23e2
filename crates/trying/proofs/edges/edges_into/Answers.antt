use Rattle.std.proofs.Common.{◌≡◌, ◌≤◌, ltb, sym, ap, ◌∙◌, subst, arith}
use Rattle.gathering.specs.Spans.{span, spans}
use Rattle.trying.specs.Edges.{Bits, is_into}
use Rattle.gathering.proofs.Blank.{blank}
use Rattle.trying.proofs.Masked.{write_finish, bits_yes, bits_no}
use Rattle.trying.proofs.edges.edges_into.Goals as goal
use Rattle.trying.proofs.edges.edges_into.Goals.{then-before, else-before}

pub loop-rank-preserved : goal.loop-rank-preserved
loop-rank-preserved c =
    let ws = c.args.writes.now in
    let test = is_into (spans ws) (span c.args.into.now) in
    let rank = c.loop-rank.rank in
    let small : rank ≤ 63 = omega (arith, c.requires, c.loop-rank-test.true) in
    let here : test rank ≡ c.before-in-loop-rank.result = ap (λ finish. ltb finish c.args.into.now.row.start) (write_finish ws rank blank c.loop-rank-test.true) ∙ sym c.before-in-loop-rank.ensures.ticks in
    elim c.if-before.branch [
      | then-before w ↦ subst (Bits _ test) (sym w.mask-is) (bits_yes rank test c.loop-rank.mask c.loop-rank.invariant w.with_bit-mask.result (here ∙ w.if-before.true) small w.with_bit-mask.ensures)
      | else-before w ↦ subst (Bits _ test) (sym w.mask-is) (bits_no rank test c.loop-rank.mask c.loop-rank.invariant (here ∙ w.if-before.false))
    ]
