-- What the word reader hands out. Assumes nothing.
use Rattle.std.specs.Prelude.{◌≡◌, ℕ, ◌+◌, ◌*◌, ◌<◌, ◌≤◌, Bool, ◌||◌, List, [], ◌∷◌, length, take, drop, Some, None, Ok, Err, Option, Result, ◌==◌, ◌≢◌}
use Rattle.operations.specs.Checks.{first_failed}
use Rattle.words.specs.declared.record.Record.{Record}
use Rattle.words.specs.declared.record.Record.TheVariants.{Read, Write}
use Rattle.words.specs.declared.refusal.WrongKind.{WrongKind}
use Rattle.words.specs.Words.{word, kind, content}

-- the words of a record that begins at word w: the first has kind 1 or 2, the second kind 0, the third kind 3
abbrev pub record_kinds : List ℕ → ℕ → List (Bool × ℕ)
record_kinds bytes w = (kind (word bytes w) == 1 || (kind (word bytes w) == 2), w) ∷ (((kind (word bytes (w + 1)) == 0), w + 1) ∷ (((kind (word bytes (w + 2)) == 3), w + 2) ∷ []))

-- the twelve bytes from word w on, still part of the file
abbrev pub record_bytes : List ℕ → ℕ → List ℕ
record_bytes bytes w = take 12 (drop (4 * w) bytes)

-- whether the record at word w is a read (its first word has kind 1) or a write (kind 2), with its twelve bytes
abbrev pub IsRecord : List ℕ → ℕ → Record → Type 0
IsRecord bytes w (Read part) = (kind (word bytes w) ≡ 1) × (part.now ≡ record_bytes bytes w)
IsRecord bytes w (Write part) = (kind (word bytes w) ≡ 2) × (part.now ≡ record_bytes bytes w)

-- at word w the reader hands out the record there and goes on behind it; fewer than twelve bytes are no record; a word of the
-- wrong kind is refused, and the reader stays
abbrev pub Handed : List ℕ → (w w' : ℕ) → Result (Option Record) WrongKind → Type 0
Handed bytes w w' (Ok None) = (length bytes < 4 * w + 12) × (w' ≡ w)
Handed bytes w w' (Ok (Some r)) = (4 * w + 12 ≤ length bytes) × (first_failed (record_kinds bytes w) ≡ None) × IsRecord bytes w r × (w' ≡ w + 3)
Handed bytes w w' (Err e) = (4 * w + 12 ≤ length bytes) × (first_failed (record_kinds bytes w) ≡ Some e.word) × (w' ≡ w)

-- a list's word has kind 0, and its content is a bay
abbrev pub HandedBay : List ℕ → (w w' : ℕ) → Result (Option ℕ) WrongKind → Type 0
HandedBay bytes w w' (Ok None) = (length bytes < 4 * w + 4) × (w' ≡ w)
HandedBay bytes w w' (Ok (Some bay)) = (4 * w + 4 ≤ length bytes) × (kind (word bytes w) ≡ 0) × (bay ≡ content (word bytes w)) × (w' ≡ w + 1)
HandedBay bytes w w' (Err e) = (4 * w + 4 ≤ length bytes) × (kind (word bytes w) ≢ 0) × (e.word ≡ w) × (w' ≡ w)
