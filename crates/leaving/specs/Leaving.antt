-- Bays left out of a source. Assumes nothing.
use Rattle.std.specs.Prelude.{◌≡◌, ℕ, ◌<◌, ◌≤◌, Bool, false, not, ◌||◌, List, [], ◌∷◌, length, Some, None, filter, Option, ◌==◌, slice_index}
use Rattle.std.specs.Borrow.{Bor}
use Rattle.masks.specs.Masks.{has_bit}
use Rattle.operations.specs.declared.refusal.Layer.TheVariants as layer
use Rattle.operations.specs.declared.refusal.NoBay.{NoBay}
use Rattle.operations.specs.declared.row.Row.{Row}
use Rattle.operations.specs.Refusals.{refusal, no_bay}

-- the entries of a list that may be absent: an absent list has none, as an empty one
abbrev pub entries : Option (Bor (List ℕ)) → List ℕ
entries None = []
entries (Some bays) = bays.now

-- whether the list has the bay
abbrev pub lists : List ℕ → ℕ → Bool
lists [] bay = false
lists (x ∷ xs) bay = lists xs bay || x == bay

-- the operations whose bay is not listed, in their order
abbrev pub unlisted : {V : Type 0} → List ℕ → List (Row V) → List (Row V)
unlisted bays = filter (λ r. not (lists bays r.bay))

-- the first n entries are bays
abbrev pub BaysUpTo : List ℕ → ℕ → Type 0
BaysUpTo bays n = (entry : ℕ) → entry < n → slice_index bays entry ≤ 63

-- refusal 6 at the first entry that is no bay
pub record NoBayIn (bays : List ℕ) (e : NoBay) : Type 0 where
  pub place : ℕ
  pub within : place < length bays
  pub above : 63 < slice_index bays place
  pub first : BaysUpTo bays place
  pub told : no_bay e ≡ refusal 6 place layer.List

-- the mask has exactly the listed bays
abbrev pub MaskOf : List ℕ → ℕ → Type 0
MaskOf bays mask = (bay : ℕ) → bay < 64 → has_bit mask bay ≡ lists bays bay

-- whether an operation of the bay is kept under the mask
abbrev pub keeps : {V : Type 0} → ℕ → Row V → Bool
keeps mask r = not (has_bit mask r.bay)
