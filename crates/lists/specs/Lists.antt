-- What a list in places of its own holds. Assumes nothing.
use Rattle.std.specs.Prelude.{ℕ, List, [], take, Some, None, Option}
use Rattle.lists.specs.declared.array.ArrayList.{ArrayList}

-- the first elements of the places, where they are filled
abbrev pub first : {T : Type 0} → ℕ → Option (List T) → List T
first len None = []
first len (Some places) = take len places

abbrev pub listed : {T : Type 0} {n : ℕ} → ArrayList T n → List T
listed list = first list.len list.items
