use Rattle.std.proofs.Common.{◌≡◌, ◌&&◌, ◌+◌, ◌<◌, length, sym, ◌∙◌, ap, subst, arith}
use Rattle.std.proofs.lemmas.Result.{err_from_is_err_and}
use Rattle.lists.specs.Lists.{listed}
use Rattle.orders.specs.Orders.{of_bay}
use Rattle.relations.specs.Meanings.{told}
use Rattle.relations.proofs.Told.{told_at, told_length}
use Rattle.gathering.specs.Kept.{AllKept}
use Rattle.gathering.specs.Spans.{spans}
use Rattle.gathering.specs.Gathering.{Wrote}
use Rattle.gathering.proofs.Wrote.{wrote_none, wrote_yes, wrote_no, wrote_over}
use Rattle.gathering.proofs.Keeping.{kept_none}
use Rattle.gathering.proofs.gather.gather_writes.Goals as goal
use Rattle.gathering.proofs.gather.gather_writes.Goals.{then-writes_in+in_ok-add_write, else-writes_in}

pub loop-place-init : goal.loop-place-init
loop-place-init g c =
    let m = g.V.Kind.meaning in
    (subst (Wrote (told m c.args.rows.now) c.args.number 0) (ap spans (sym c.clear.ensures)) (wrote_none (told m c.args.rows.now) c.args.number), subst (AllKept m c.args.rows.now) (sym c.clear.ensures) (kept_none m c.args.rows.now))

pub loop-place-preserved : goal.loop-place-preserved
loop-place-preserved g c =
    let m = g.V.Kind.meaning in
    let rows = c.args.rows.now in
    let ops = told m rows in
    let b = c.args.number in
    let n = c.loop-place.place in
    let ws = spans (listed c.loop-place.writes) in
    let row = c.index-rows-place.result in
    let so_far = c.loop-place.invariant.0 in
    let all : AllKept m rows (listed c.loop-place.writes) = c.loop-place.invariant.1 in
    let within : n < length ops = omega (arith, told_length m rows, c.loop-place-test.true) in
    let here = ap (λ o. of_bay b o && o.write) (told_at m rows n row c.loop-place-test.true c.index-rows-place.is) in
    elim c.if-writes_in.branch [
      | then-writes_in+in_ok-add_write w ↦
          let e = here ∙ sym c.writes_in.ensures ∙ w.if-writes_in.true in
          let added = w.in_ok-add_write.ensures.added in (
            subst (λ r. Wrote ops b (n + 1) (spans (listed r))) (sym w.writes-is) (wrote_yes ops b n ws so_far within e _ added.0 added.1),
            subst (λ r. AllKept m rows (listed r)) (sym w.writes-is) (w.in_ok-add_write.ensures.kept all),
          )
      | else-writes_in w ↦
          let e = here ∙ sym c.writes_in.ensures ∙ w.if-writes_in.false in (
            subst (λ r. Wrote ops b (n + 1) (spans (listed r))) (sym w.writes-is) (wrote_no ops b n ws so_far within e),
            subst (λ r. AllKept m rows (listed r)) (sym w.writes-is) all,
          )
    ]

pub returns-in_err-add_write : goal.returns-in_err-add_write
returns-in_err-add_write g c =
    let m = g.V.Kind.meaning in
    let rows = c.args.rows.now in
    let within : c.loop-place.place < length (told m rows) = omega (arith, told_length m rows, c.loop-place-test.true) in
    let here = ap (λ o. of_bay c.args.number o && o.write) (told_at m rows c.loop-place.place c.index-rows-place.result c.loop-place-test.true c.index-rows-place.is) in
    let p = err_from_is_err_and c.from_residual.result c.from_residual.ensures.1 in
    let refused = c.in_err-add_write.ensures.added in
    rw p.1 (record { wrote = wrote_over (told m rows) c.args.number c.loop-place.place (spans (listed c.loop-place.writes)) c.loop-place.invariant.0 within (here ∙ sym c.writes_in.ensures ∙ c.if-writes_in.true) refused.0; kept = tt })

pub returns : goal.returns
returns g c =
    let m = g.V.Kind.meaning in
    let rows = c.args.rows.now in
    let ended : c.loop-place.place ≡ length rows = omega arith in
    record {
      wrote = subst (λ n. Wrote (told m rows) c.args.number n (spans (listed c.loop-place.writes))) ended c.loop-place.invariant.0;
      kept = c.loop-place.invariant.1;
    }
