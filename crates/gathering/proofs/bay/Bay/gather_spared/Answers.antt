use Rattle.std.proofs.Common.{None, Ok, length, inr, sym, ap, subst}
use Rattle.std.proofs.lemmas.Result.{err_from_is_err_and}
use Rattle.lists.specs.Lists.{listed}
use Rattle.relations.specs.Meanings.{told}
use Rattle.gathering.specs.Faults.{Spares}
use Rattle.gathering.specs.Spans.{spans}
use Rattle.gathering.specs.Gathering.{Wrote}
use Rattle.gathering.specs.Writes.{PlacesBelow}
use Rattle.gathering.proofs.Gathered.{rows_below, rows_seen, rows_gathered, faulty_unspares, twice_unspares}
use Rattle.gathering.proofs.bay.Bay.gather_spared.Goals as goal

pub first_twice-requires : goal.first_twice-requires
first_twice-requires g c =
    subst (λ ws. PlacesBelow (length c.args.rows.now) (spans ws)) (sym c.as_slice.ensures.value)
    (rows_below g.V.Kind.meaning c.args.rows.now c.args.number (spans (listed c.gather_writes.new.writes)) c.in_ok-gather_writes.ensures.wrote)

pub gather_reads-reads-requires : goal.gather_reads-reads-requires
gather_reads-reads-requires g c = rows_seen g.V.Kind.meaning c.args.rows.now c.args.number (spans (listed c.gather_writes.new.writes)) c.in_ok-gather_writes.ensures.wrote

pub returns-in-Some-clause-gathered : goal.returns-in-Some-clause-gathered
returns-in-Some-clause-gathered g c =
    let m = g.V.Kind.meaning in
    let rows = c.args.rows.now in
    let wrote = subst (λ ws. Wrote (told m rows) c.args.number (length rows) (spans ws)) (sym c.as_slice.ensures.value) c.in_ok-gather_writes.ensures.wrote in
    twice_unspares m rows c.args.number _ wrote c.in-Some.place (c.in-Some.ensures c.args.number wrote)

pub returns-in_err-spare-clause-gathered : goal.returns-in_err-spare-clause-gathered
returns-in_err-spare-clause-gathered g c =
    let m = g.V.Kind.meaning in
    let rows = c.args.rows.now in
    let wrote = subst (λ ws. Wrote (told m rows) c.args.number (length rows) (spans ws)) (sym c.as_slice.ensures.value) c.in_ok-gather_writes.ensures.wrote in
    let p = err_from_is_err_and c.from_residual-in_err-spare.result c.from_residual-in_err-spare.ensures.1 in
    let fault = c.in_err-spare.field-0.0 in
    rw (p.1, p.2) (faulty_unspares m rows c.args.number _ wrote (record { written_twice = None; unwritten = c.gather_reads-reads.result.unwritten; foreseen = c.gather_reads-reads.result.foreseen }) (c.in_default.ensures c.args.number wrote) c.gather_reads-reads.ensures.lacking (λ none. (c.gather_reads-reads.ensures.seen (inr none)).1.early) fault c.note.new.self.faults (ap (λ bay. bay.faults) c.note.ensures) c.in_err-spare.ensures)

pub returns-clause-gathered : goal.returns-clause-gathered
returns-clause-gathered g c =
    let m = g.V.Kind.meaning in
    let rows = c.args.rows.now in
    let wrote = subst (λ ws. Wrote (told m rows) c.args.number (length rows) (spans ws)) (sym c.as_slice.ensures.value) c.in_ok-gather_writes.ensures.wrote in
    let faults = ap (λ bay. bay.faults) c.note.ensures in
    let spared = subst (λ f. Spares f (Ok tt)) faults c.in_ok-spare.ensures in
    let seen = c.gather_reads-reads.ensures.seen (inr spared.1) in
    rw c.note.ensures (rows_gathered m rows c.args.number _ (c.in_default.ensures c.args.number wrote) seen.0 seen.1, spared)

pub returns-clause-kept : goal.returns-clause-kept
returns-clause-kept g c = rw c.note.ensures (c.gather_reads-reads.ensures.kept c.in_ok-gather_writes.ensures.kept)
