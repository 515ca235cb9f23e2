use Rattle.std.proofs.Common.{length, inl, refl, sym, subst}
use Rattle.std.proofs.lemmas.Result.{err_from_is_err_and}
use Rattle.lists.specs.Lists.{listed}
use Rattle.relations.specs.Meanings.{told}
use Rattle.gathering.specs.Spans.{spans}
use Rattle.gathering.specs.Gathering.{Wrote}
use Rattle.gathering.specs.Writes.{PlacesBelow}
use Rattle.gathering.proofs.Gathered.{rows_below, rows_seen, rows_gathered}
use Rattle.gathering.proofs.bay.Bay.gather.Goals as goal

pub first_twice-written_twice-requires : goal.first_twice-written_twice-requires
first_twice-written_twice-requires g c =
    subst (λ ws. PlacesBelow (length c.args.rows.now) (spans ws)) (sym c.as_slice.ensures.value)
    (rows_below g.V.Kind.meaning c.args.rows.now c.args.number (spans (listed c.gather_writes.new.writes)) c.in_ok-gather_writes.ensures.wrote)

pub gather_reads-reads-requires : goal.gather_reads-reads-requires
gather_reads-reads-requires g c = rows_seen g.V.Kind.meaning c.args.rows.now c.args.number (spans (listed c.gather_writes.new.writes)) c.in_ok-gather_writes.ensures.wrote

pub returns-clause-gathered : goal.returns-clause-gathered
returns-clause-gathered g c =
    let m = g.V.Kind.meaning in
    let rows = c.args.rows.now in
    let wrote = subst (λ ws. Wrote (told m rows) c.args.number (length rows) (spans ws)) (sym c.as_slice.ensures.value) c.in_ok-gather_writes.ensures.wrote in
    let seen = c.gather_reads-reads.ensures.seen (inl refl) in
    rw c.note.ensures (rows_gathered m rows c.args.number _ (c.first_twice-written_twice.ensures c.args.number wrote) seen.0 seen.1)

pub returns-clause-kept : goal.returns-clause-kept
returns-clause-kept g c = rw c.note.ensures (c.gather_reads-reads.ensures.kept c.in_ok-gather_writes.ensures.kept)

pub returns-in_err-gather_writes : goal.returns-in_err-gather_writes
returns-in_err-gather_writes g c =
    let p = err_from_is_err_and c.from_residual.result c.from_residual.ensures.1 in
    rw p.1 (record { gathered = c.in_err-gather_writes.ensures.wrote; kept = tt })
