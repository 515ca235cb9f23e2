-- What a room holds. Assumes nothing.
use Rattle.std.specs.Prelude.{◌≡◌, ℕ, ◌<◌, ◌≤◌, List, [], ◌∷◌, ◌++◌, length, Ok, Err, vec_items, Result, slice_set}
use Rattle.operations.specs.declared.room.Room.{Room}

abbrev pub held : {T : Type 0} → Room T → List T
held room = vec_items room.items

-- the element is the last now; or there was no room for it, and nothing changed
abbrev pub Pushed : {T E : Type 0} → List T → T → List T → Result (Unit {0}) E → Type 0
Pushed was x is (Ok done) = is ≡ was ++ (x ∷ [])
Pushed was x is (Err e) = (512 ≤ length was) × (is ≡ was)

-- another element stands at the place now; or the place is at or past the end, and nothing changed
abbrev pub Replaced : {T E : Type 0} → List T → ℕ → T → List T → Result (Unit {0}) E → Type 0
Replaced was place x is (Ok done) = (place < length was) × (is ≡ slice_set was place x)
Replaced was place x is (Err e) = (length was ≤ place) × (is ≡ was)
