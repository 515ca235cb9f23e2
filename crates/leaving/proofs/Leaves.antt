-- What a mask of listed bays keeps. Assumes nothing.
use Rattle.std.proofs.Common.{◌≡◌, ℕ, ◌%◌, ◌^◌, not, eqb, List, [], get_or, filter, refl, ap, ◌∙◌, arith}
use native.Mathlib.Nat.{zero-div}
use Rattle.leaving.specs.Leaving.{lists, unlisted, keeps, MaskOf}
use Rattle.operations.specs.Rows.{AllValid}
use Rattle.operations.specs.declared.row.Row.{Row}
use Rattle.operations.proofs.Places.{kept_same, kept_all}

-- 0 is the mask of no bay
pub none_listed : MaskOf [] 0
none_listed bay low = ap (λ n. eqb (n % 2) 1) (zero-div (2 ^ bay))

module _ {V : Type 0} (bays : List ℕ) (mask : ℕ) (is : MaskOf bays mask) (rows : List (Row V)) (valid : AllValid rows) where
  -- the mask keeps what is not listed
  pub mask_keeps : filter (keeps mask) rows ≡ unlisted bays rows
  mask_keeps =
      kept_same (keeps mask) (λ r. not (lists bays r.bay)) rows
      (λ k d lt. let low = (valid k d lt).0 in ap not (is (get_or rows k d).bay (omega arith)))

  -- and everything where nothing is listed
  pub mask_keeps_all : bays ≡ [] → filter (keeps mask) rows ≡ rows
  mask_keeps_all none =
      mask_keeps ∙ ap (λ (xs : List ℕ). unlisted xs rows) none
      ∙ kept_all (λ (r : Row V). not (lists [] r.bay)) rows (λ r. refl)
