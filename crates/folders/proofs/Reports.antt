-- What is reported of a folder, from what its parts ensure. Assumes nothing.
use Rattle.std.proofs.Common.{◌≡◌, ℕ, List, Err, Some, None, String, Option, Result, refl, ◌∙◌, inl}
use Rattle.std.specs.Borrow.{Bor}
use Rattle.std.specs.Global.{Vec}
use Rattle.std.specs.Prelude.{option_map, vec_items}
use Rattle.std.specs.declared.alloc.Global.{Global}
use Rattle.folders.specs.Folders.{OpenedFolder}
use Rattle.folders.specs.Reports.{Reported}
use Rattle.folders.specs.declared.failed.Failed.{Failed}
use Rattle.folders.specs.declared.failed.Failed.TheVariants.{Unreported, Unread}
use Rattle.operations.specs.declared.row.Row.{Row}
use Rattle.reports.specs.Reporting.{contents}
use Rattle.reports.specs.declared.unreported.Unreported.{Unreported as Reason}

contents_are : (lent : Option (Bor (List ℕ))) → contents lent ≡ option_map (λ x. x.now) lent
contents_are None = refl
contents_are (Some x) = refl

-- the bytes of a list, as they are lent
pub lent_contents : (lent : Option (Bor (List ℕ))) (list : Option (Vec ℕ)) → option_map (λ x. x.now) lent ≡ option_map vec_items list → contents lent ≡ option_map vec_items list
lent_contents lent list e = contents_are lent ∙ e

module _ {V : Type 0} (reads : ℕ → Option V) (On : List (Row V) → Option (List ℕ) → Result (String Global) Reason → Type 0) where
  -- a folder that is not opened is said to be so
  pub unopened : (e : Failed) → OpenedFolder reads (Err e) → Reported reads On (Err e)
  unopened (Unreported why) h = inl h
  unopened (Unread error) h = h
