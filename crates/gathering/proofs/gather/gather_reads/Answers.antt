use Rattle.std.proofs.Common.{◌≡◌, ◌+◌, ◌<◌, not, ◌&&◌, length, is_some, sym, ap, ◌∙◌, subst, arith}
use Rattle.std.proofs.lemmas.Bool.{and_parts, not-true}
use Rattle.bays.specs.Faults.{Lowest, faulty, unwritten}
use Rattle.lists.specs.Lists.{listed}
use Rattle.orders.specs.Orders.{at, of_bay}
use Rattle.relations.specs.Meanings.{told}
use Rattle.relations.proofs.Told.{told_at, told_length}
use Rattle.gathering.specs.Kept.{AllKept}
use Rattle.gathering.specs.Spans.{spans}
use Rattle.gathering.specs.Gathering.{Seen, ReadsUpTo}
use Rattle.gathering.proofs.Lows.{lowest_found}
use Rattle.gathering.proofs.Seen.{seen_below}
use Rattle.gathering.proofs.Noted.{noted_nothing, other_step, read_step}
use Rattle.gathering.proofs.gather.gather_reads.Goals as goal
use Rattle.gathering.proofs.gather.gather_reads.Goals.{then-reads_in+else-enough, else-reads_in}

pub add_read-requires : goal.add_read-requires
add_read-requires g c =
    let m = g.V.Kind.meaning in
    let rows = c.args.rows.now in
    let ops = told m rows in
    let here = ap (λ o. of_bay c.args.number o && not o.write) (told_at m rows c.loop-place.place c.index-rows-place.result c.loop-place-test.true c.index-rows-place.is) in
    let parts = and_parts (of_bay c.args.number (at ops c.loop-place.place)) (not (at ops c.loop-place.place).write) (here ∙ sym c.reads_in.ensures ∙ c.if-reads_in.true) in
    record {
      below = (λ i h. omega (arith, seen_below ops c.args.number c.loop-place.place (spans (listed c.loop-place.writes)) c.loop-place.invariant.0 i h, told_length m rows), c.loop-place-test.true);
      read = not-true (at ops c.loop-place.place).write parts.1;
    }

pub loop-place-init : goal.loop-place-init
loop-place-init g c = (c.requires, noted_nothing (told g.V.Kind.meaning c.args.rows.now) c.args.number c.default-reads.result c.default-reads.ensures, λ all. all)

pub loop-place-preserved : goal.loop-place-preserved
loop-place-preserved g c =
    let m = g.V.Kind.meaning in
    let rows = c.args.rows.now in
    let ops = told m rows in
    let b = c.args.number in
    let n = c.loop-place.place in
    let ws = spans (listed c.loop-place.writes) in
    let row = c.index-rows-place.result in
    let within : n < length ops = omega (arith, told_length m rows, c.loop-place-test.true) in
    let here = ap (λ o. of_bay b o && not o.write) (told_at m rows n row c.loop-place-test.true c.index-rows-place.is) in
    elim c.if-reads_in.branch [
      | then-reads_in+else-enough w ↦
          let step = read_step ops b n within c.loop-place.reads c.loop-place.invariant.1 ws c.loop-place.invariant.0 (here ∙ sym c.reads_in.ensures ∙ w.if-reads_in.true) _ w.add_read.result w.add_read.ensures.added in
          (subst (λ r. Seen ops b (n + 1) (spans (listed r))) (sym w.writes-is) step.0, subst (ReadsUpTo ops b (n + 1)) (sym (w.reads-is ∙ w.with-reads.ensures)) step.1, λ all. subst (λ r. AllKept m rows (listed r)) (sym w.writes-is) (w.add_read.ensures.kept (c.loop-place.invariant.2 all)))
      | else-reads_in w ↦
          let step = other_step ops b n within c.loop-place.reads c.loop-place.invariant.1 ws c.loop-place.invariant.0 (here ∙ sym c.reads_in.ensures ∙ w.if-reads_in.false) in
          (subst (λ r. Seen ops b (n + 1) (spans (listed r))) (sym w.writes-is) step.0, subst (ReadsUpTo ops b (n + 1)) (sym w.reads-is) step.1, λ all. subst (λ r. AllKept m rows (listed r)) (sym w.writes-is) (c.loop-place.invariant.2 all))
    ]

pub returns-then-enough-clause-lacking : goal.returns-then-enough-clause-lacking
returns-then-enough-clause-lacking g c =
    let m = g.V.Kind.meaning in
    let rows = c.args.rows.now in
    let ops = told m rows in
    let n = c.loop-place.place in
    let within : n < length ops = omega (arith, told_length m rows, c.loop-place-test.true) in
    let here = ap (λ o. of_bay c.args.number o && not o.write) (told_at m rows n c.index-rows-place.result c.loop-place-test.true c.index-rows-place.is) in
    let step = read_step ops c.args.number n within c.loop-place.reads c.loop-place.invariant.1 (spans (listed c.loop-place.writes)) c.loop-place.invariant.0 (here ∙ sym c.reads_in.ensures ∙ c.if-reads_in.true) _ c.add_read.result c.add_read.ensures.added in
    let found = (and_parts (not c.args.all) (is_some c.with-reads.result.unwritten) (sym c.enough.ensures ∙ c.if-enough.true)).1 in
    lowest_found _ (n + 1) c.with-reads.result.unwritten (subst (λ r. Lowest (n + 1) (faulty (of_bay c.args.number) unwritten ops) r.unwritten) (sym c.with-reads.ensures) step.1.lacking) found (length rows) (omega (arith, c.loop-place-test.true))

pub returns-then-enough-clause-kept : goal.returns-then-enough-clause-kept
returns-then-enough-clause-kept g c all = c.add_read.ensures.kept (c.loop-place.invariant.2 all)

pub returns : goal.returns
returns g c =
    let m = g.V.Kind.meaning in
    let rows = c.args.rows.now in
    let ended : c.loop-place.place ≡ length rows = omega arith in
    record {
      lacking = subst (λ n. Lowest n (faulty (of_bay c.args.number) unwritten (told m rows)) c.loop-place.reads.unwritten) ended c.loop-place.invariant.1.lacking;
      seen = λ either. (subst (λ n. Seen (told m rows) c.args.number n (spans (listed c.loop-place.writes))) ended c.loop-place.invariant.0, subst (λ n. ReadsUpTo (told m rows) c.args.number n c.loop-place.reads) ended c.loop-place.invariant.1);
      kept = c.loop-place.invariant.2;
    }
