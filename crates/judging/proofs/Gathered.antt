-- Which rows are writes of a bay. Assumes nothing.
use Rattle.std.proofs.Common.{◌≡◌, ℕ, ◌<◌, ◌&&◌, eqb, ltb, List, [], ◌∷◌, zero, suc, length, get_or, sym, refl, ap, ◌∙◌, ap₂, arith}
use mathlib.Core.Bool.{and_comm}
use Rattle.std.proofs.lemmas.List.{length-map}
use Rattle.std.proofs.lemmas.Bool.{lt-ltb}
use Rattle.operations.specs.declared.row.Row.{Row}
use Rattle.orders.specs.Orders.{at, writes}
use Rattle.relations.specs.Meanings.{writing as sort-writes, meant, told}
use Rattle.relations.proofs.Told.{told_at}

module _ {V : Type 0} (m : V → ℕ × ℕ) where
  -- which operations write, and in which bay, is not in what their values mean
  same_write : (k : V → ℕ × ℕ) (rows : List (Row V)) (p : ℕ) → (at (told m rows) p).write ≡ (at (told k rows) p).write
  same_write k [] p = refl
  same_write k (r ∷ rows) zero = refl
  same_write k (r ∷ rows) (suc p) = same_write k rows p

  same_bay : (k : V → ℕ × ℕ) (rows : List (Row V)) (p : ℕ) → (at (told m rows) p).bay ≡ (at (told k rows) p).bay
  same_bay k [] p = refl
  same_bay k (r ∷ rows) zero = refl
  same_bay k (r ∷ rows) (suc p) = same_bay k rows p

  pub same_writes : (k : V → ℕ × ℕ) (rows : List (Row V)) (b p : ℕ) → writes (told m rows) b p ≡ writes (told k rows) b p
  same_writes k rows b p =
      ap₂ (λ n c. ltb p n && c) (length-map rows (meant m) ∙ sym (length-map rows (meant k)))
      (ap₂ (λ w c. w && eqb c b) (same_write k rows p) (same_bay k rows p))

  -- whether a write of the bay stands at a row's place
  pub told_writes : (rows : List (Row V)) (b p : ℕ) (row : Row V) → p < length rows → row ≡ get_or rows p row → writes (told m rows) b p ≡ (eqb row.bay b && sort-writes row.sort)
  told_writes rows b p row h e =
      ap₂ ◌&&◌ (lt-ltb p (length (told m rows)) (omega (arith, length-map rows (meant m))))
      (ap (λ o. o.write && eqb o.bay b) (told_at m rows p row h e) ∙ and_comm (sort-writes row.sort) (eqb row.bay b))
