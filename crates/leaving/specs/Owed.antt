-- What is kept of operations are operations. Assumes nothing.
use Rattle.std.specs.Prelude.{Bool, List, filter}
use Rattle.std.proofs.Common.{zero-le}
use Rattle.std.proofs.ByRecursion.{all_kept_by, every_from_all, all_from_every}
use Rattle.operations.specs.declared.row.Row.{Row}
use Rattle.operations.specs.Rows.{Valid, AllValid}

pub kept_valid : {V : Type 0} (p : Row V → Bool) (rows : List (Row V)) → AllValid rows → AllValid (filter p rows)
kept_valid p rows h = λ place d lt. every_from_all Valid (filter p rows) (all_kept_by p Valid rows (all_from_every Valid rows (λ k d _ lt. h k d lt))) place d zero-le lt
