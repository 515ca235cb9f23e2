-- Lists of bays. Assumes nothing.
use Rattle.std.specs.Prelude.{◌≡◌, ℕ, ◌*◌, ◌/◌, ◌%◌, ◌<◌, Bool, List, [], ◌∷◌, length, Some, None, Ok, Err, Result, ◌==◌, nat_le, slice_index_or}
use Rattle.operations.specs.Checks.{first_failed, each_below}
use Rattle.operations.specs.declared.refusal.Layer.TheVariants as layer
use Rattle.operations.specs.declared.refusal.Refusal.{Refusal}
use Rattle.operations.specs.declared.room.Room.{Room}
use Rattle.operations.specs.Refusals.{refusal}
use Rattle.operations.specs.Rooms.{held}
use Rattle.tables.specs.declared.refusal.ListRefusal.{ListRefusal}
use Rattle.tables.specs.Refusals.{list_refusal}
use Rattle.words.specs.Words.{word, kind, content}

-- the bays are the contents of the file's words, in order, one each
pub record Lists (bytes bays : List ℕ) : Type 0 where
  pub whole : 4 * length bays ≡ length bytes
  pub each : (i d : ℕ) → i < length bays → slice_index_or bays i d ≡ content (word bytes i)

-- word i has kind 0
abbrev pub bay_checks : List ℕ → ℕ → List (Bool × Refusal)
bay_checks bytes i = ((kind (word bytes i) == 0), refusal 3 i layer.WordsInList) ∷ []

-- all that is checked of a list file, in order
abbrev pub list_checks : List ℕ → List (Bool × Refusal)
list_checks bytes = (nat_le (length bytes) 2048, refusal 1 512 layer.List) ∷ (((length bytes % 4 == 0), refusal 2 (length bytes) layer.List) ∷ each_below (length bytes / 4) (bay_checks bytes))

-- the bays of the file where no check fails, or else the refusal of the first check that fails
abbrev pub OpenedList : List ℕ → Result (Room ℕ) ListRefusal → Type 0
OpenedList bytes (Ok bays) = (first_failed (list_checks bytes) ≡ None) × Lists bytes (held bays)
OpenedList bytes (Err e) = first_failed (list_checks bytes) ≡ Some (list_refusal e)
