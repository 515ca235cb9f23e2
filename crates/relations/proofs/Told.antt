-- What rows tell. Assumes nothing.
use Rattle.std.proofs.Common.{◌≡◌, ℕ, zero, suc, ◌<◌, List, [], ◌∷◌, length, get_or, sym, ap, ◌∙◌, arith}
use Rattle.std.proofs.lemmas.List.{length-map, get_or-map}
use Rattle.operations.specs.Rows.{AllValid}
use Rattle.operations.specs.declared.row.Row.{Row}
use Rattle.orders.specs.Orders.{at, Timed}
use Rattle.relations.specs.Meanings.{meant, told}

module _ {V : Type 0} (m : V → ℕ × ℕ) where
  -- what a row tells stands at its place
  pub told_at : (rows : List (Row V)) (p : ℕ) (row : Row V) → p < length rows → row ≡ get_or rows p row → at (told m rows) p ≡ meant m row
  told_at rows p row h e = get_or-map (meant m) rows p row _ h ∙ ap (meant m) (sym e)

  pub told_length : (rows : List (Row V)) → length (told m rows) ≡ length rows
  told_length rows = length-map rows (meant m)

  -- no operation that is told starts after its finish,
  pub told_timed : (rows : List (Row V)) → AllValid rows → Timed (told m rows)
  told_timed [] v p h = absurd (omega arith)
  told_timed (r ∷ rows) v zero h = (v 0 r (omega arith)).2
  told_timed (r ∷ rows) v (suc p) h = told_timed rows (λ k d l. v (suc k) d (omega arith)) p (omega arith)

  -- or has a bay above 63
  pub told_bays : (rows : List (Row V)) → AllValid rows → (p : ℕ) → p < length (told m rows) → (at (told m rows) p).bay < 64
  told_bays [] v p h = absurd (omega arith)
  told_bays (r ∷ rows) v zero h = omega (arith, (v 0 r (omega arith)).0)
  told_bays (r ∷ rows) v (suc p) h = told_bays rows (λ k d l. v (suc k) d (omega arith)) p (omega arith)
