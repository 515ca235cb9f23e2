-- What a pass over a source still gives. Assumes nothing.
use Rattle.std.specs.Prelude.{ℕ, List}
use Rattle.operations.specs.declared.pass.Pass.{Pass}
use Rattle.operations.specs.declared.row.Row.{Row}

-- the rows of the operations that are still to come
abbrev pub coming : {S V : Type 0} → (S → ℕ → List (Row V)) → Pass S → List (Row V)
coming onward pass = onward pass.source.now pass.position
