use Rattle.std.proofs.Common.{◌≡◌, length, get_or, set, ltb, Some, refl, sym, ap, ◌∙◌, subst, arith}
use Rattle.std.proofs.lemmas.List.{get_or-map, length-map, map-set}
use Rattle.std.proofs.lemmas.Result.{MatchResult-at_ok}
use Rattle.bays.specs.Faults.{Lowest}
use Rattle.orders.specs.Orders.{at, alike}
use Rattle.lists.specs.Lists.{listed}
use Rattle.relations.specs.Meanings.{meant, told}
use Rattle.relations.proofs.Told.{told_at}
use Rattle.gathering.specs.Spans.{span, spans}
use Rattle.gathering.specs.Writes.{same_value, read_by}
use Rattle.operations.specs.Rows.{without_value}
use Rattle.gathering.specs.Kept.{ReadOf, AllKept}
use Rattle.gathering.proofs.Keeping.{kept_set}
use Rattle.gathering.proofs.Blank.{blank}
use Rattle.gathering.proofs.Ranked.{like_write}
use Rattle.gathering.proofs.writes.add_read.Goals as goal

pub returns-clause-added : goal.returns-clause-added
returns-clause-added g c =
    let m = g.V.Kind.meaning in
    let ops = told m c.args.rows.now in
    let ws = listed c.args.writes.now in
    let rank = c.in_ok-rank.rank in
    let read = c.index-rows-place.result in
    let w = get_or c.as_slice-2.result.now rank blank in
    let same : w ≡ get_or ws rank blank = ap (λ xs. get_or xs rank blank) c.as_slice-2.ensures.value in
    let there : at ops c.args.place ≡ meant m read = told_at m c.args.rows.now c.args.place read c.requires.below.1 c.index-rows-place.is in
    let wrote = MatchResult-at_ok _ _ _ c.unwrap.ensures c.set.ensures in
    let low = subst (λ xs. Lowest (length xs) (same_value ops (spans xs) c.args.place) (Some rank)) c.as_slice.ensures.value c.in_ok-rank.ensures in
    let left : span c.read_by.result ≡ read_by (span w) (at ops c.args.place) = c.read_by.ensures.span ∙ ap (read_by (span w)) (sym there) in (
      rank,
      span w,
      (omega (arith, low.0, length-map ws span), low.1, low.2),
      ap span same ∙ sym (get_or-map span ws rank blank (span w) wrote.0),
      c.before-foreseen.ensures.ticks ∙ ap (λ o. ltb o.finish w.row.start) (sym there),
      ap spans wrote.1 ∙ map-set span ws rank c.read_by.result ∙ ap (set (spans ws) rank) left,
    )

pub returns-clause-kept : goal.returns-clause-kept
returns-clause-kept g c kept =
    let m = g.V.Kind.meaning in
    let rows = c.args.rows.now in
    let ops = told m rows in
    let ws = listed c.args.writes.now in
    let rank = c.in_ok-rank.rank in
    let read = c.index-rows-place.result in
    let w = get_or c.as_slice-2.result.now rank blank in
    let same : w ≡ get_or ws rank blank = ap (λ xs. get_or xs rank blank) c.as_slice-2.ensures.value in
    let wrote = MatchResult-at_ok _ _ _ c.unwrap.ensures c.set.ensures in
    let low = subst (λ xs. Lowest (length xs) (same_value ops (spans xs) c.args.place) (Some rank)) c.as_slice.ensures.value c.in_ok-rank.ensures in
    let reads = sym (like_write m rows ws c.requires.below.0 rank blank wrote.0 c.args.place) ∙ low.1 in
    let of : ReadOf m rows w.place (without_value read) = (c.args.place, c.requires.below.1, (read, c.index-rows-place.is, refl), c.requires.read, ap (λ v. alike (at ops v.place) (at ops c.args.place)) same ∙ reads) in
    subst (AllKept m rows) (sym (wrote.1 ∙ ap (set ws rank) c.read_by.ensures.whole)) (kept_set m rows ws rank w blank wrote.0 same (without_value read) of kept)
