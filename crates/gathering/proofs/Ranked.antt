-- What stands at a rank among rows. Assumes nothing.
use Rattle.std.proofs.Common.{◌≡◌, ℕ, ◌<◌, List, length, get_or, sym, ap, ◌∙◌, subst, ap₂, arith}
use Rattle.std.proofs.lemmas.List.{get_or-map, length-map}
use Rattle.operations.specs.declared.row.Row.{Row}
use Rattle.orders.specs.Orders.{at, alike}
use Rattle.relations.specs.Meanings.{meant, told}
use Rattle.relations.proofs.Told.{told_at}
use Rattle.gathering.specs.Spans.{Span, span, spans}
use Rattle.gathering.specs.declared.write.Write.{Write}
use Rattle.gathering.specs.Writes.{places, same_value, PlacesBelow}

module _ {V : Type 0} (m : V → ℕ × ℕ) (rows : List (Row V)) (ws : List Span) (below : PlacesBelow (length rows) ws) (i : ℕ) (d : Span) (h : i < length ws) where
  -- it has a row,
  rank_below : (get_or ws i d).place < length rows
  rank_below = subst (λ p. p < length rows) (get_or-map (λ w. w.place) ws i d 0 h) (below i h)

  -- whose bay and value decide
  same_is : (place : ℕ) → place < length rows → (one other : Row V) → one ≡ get_or rows (get_or ws i d).place one → other ≡ get_or rows place other → same_value (told m rows) ws place i ≡ alike (meant m one) (meant m other)
  same_is place k one other e f = ap₂ alike (ap (at (told m rows)) (get_or-map (λ w. w.place) ws i d 0 h) ∙ told_at m rows (get_or ws i d).place one rank_below e) (told_at m rows place other k f)

module _ {V : Type 0} (m : V → ℕ × ℕ) (rows : List (Row V)) (ws : List Write) (below : PlacesBelow (length rows) (spans ws)) (i : ℕ) (d : Write) (h : i < length ws) where
  within : i < length (spans ws)
  within = omega (arith, h, length-map ws span)

  at_place : (get_or (spans ws) i (span d)).place ≡ (get_or ws i d).place
  at_place = ap (λ s. s.place) (get_or-map span ws i d (span d) h)

  -- the same of a gathered write
  pub write_below : (get_or ws i d).place < length rows
  write_below = subst (λ p. p < length rows) at_place (rank_below m rows (spans ws) below i (span d) within)

  pub same_write : (place : ℕ) → place < length rows → (one other : Row V) → one ≡ get_or rows (get_or ws i d).place one → other ≡ get_or rows place other → same_value (told m rows) (spans ws) place i ≡ alike (meant m one) (meant m other)
  same_write place k one other e f = same_is m rows (spans ws) below i (span d) within place k one other (e ∙ ap (λ p. get_or rows p one) (sym at_place)) f

  pub place_at : get_or (places (spans ws)) i 0 ≡ (get_or ws i d).place
  place_at = get_or-map (λ w. w.place) (spans ws) i (span d) 0 within ∙ at_place

  -- and what its test of the value of the operation at a place says
  pub like_write : (place : ℕ) → same_value (told m rows) (spans ws) place i ≡ alike (at (told m rows) (get_or ws i d).place) (at (told m rows) place)
  like_write place = ap (λ p. alike (at (told m rows) p) (at (told m rows) place)) place_at
