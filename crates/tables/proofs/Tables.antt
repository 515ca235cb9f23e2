-- One record more of a table. Assumes nothing.
use Rattle.std.proofs.Common.{◌≡◌, ℕ, ◌+◌, ◌*◌, ◌/◌, ◌%◌, ◌≤◌, Bool, true, false, eqb, leb, List, [], ◌∷◌, map, length, drop, is_some, Some, None, Option, Result, sym, refl, ap, ◌∙◌, subst, arith, eq-eqb, eqb-true, le-leb}
use Rattle.std.proofs.lemmas.List.{length-drop, length-take-le}
use Rattle.operations.specs.declared.refusal.Layer.TheVariants as layer
use Rattle.operations.specs.declared.refusal.Refusal.{Refusal}
use Rattle.operations.specs.declared.row.Row.{Row}
use Rattle.operations.specs.declared.row.Sort.TheVariants.{Read, Write}
use Rattle.operations.specs.Refusals.{refusal}
use Rattle.words.specs.declared.record.Record.{Record}
use Rattle.words.specs.declared.record.Record.TheVariants as is
use Rattle.words.specs.declared.refusal.WrongKind.{WrongKind}
use Rattle.operations.specs.Checks.{first_failed, each_below}
use Rattle.words.specs.Reading.{record_kinds, record_bytes, IsRecord, Handed}
use Rattle.tables.specs.Records.{head_kind, RecordAt, Valued, value_checks, record_checks, table_checks}
use Rattle.words.specs.Rows.{bytes_of, sort_of, pattern_row}
use Rattle.words.specs.Words.{word, kind}
use Rattle.operations.proofs.Checks.{passed_then, failed_then, each_failed, passed_as, failed_as, two_passed}
use Rattle.words.proofs.Parts.{part_row}

-- words that pass have the kinds of a start and of a finish
kinds_pass : (a b c : Bool) (u v w : ℕ) → first_failed ((a, u) ∷ ((b, v) ∷ ((c, w) ∷ []))) ≡ None → (b ≡ true) × (c ≡ true)
kinds_pass true true true u v w h = (refl, refl)
kinds_pass true true false u v w h = let z : ◌≡◌ {A = ℕ} 0 1 = cc in absurd (omega arith)
kinds_pass true false c u v w h = let z : ◌≡◌ {A = ℕ} 0 1 = cc in absurd (omega arith)
kinds_pass false b c u v w h = let z : ◌≡◌ {A = ℕ} 0 1 = cc in absurd (omega arith)

-- the row of a record that was handed out
pub handed_row : (bytes : List ℕ) (w : ℕ) (found : Record) (row : Row ℕ) → IsRecord bytes w found → row ≡ pattern_row (sort_of found) (bytes_of found) 0 → row ≡ pattern_row (sort_of found) bytes w
handed_row bytes w (is.Read part) row h e = e ∙ ap (λ bs. pattern_row Read bs 0) h.1 ∙ part_row bytes w Read
handed_row bytes w (is.Write part) row h e = e ∙ ap (λ bs. pattern_row Write bs 0) h.1 ∙ part_row bytes w Write

handed_kind : (bytes : List ℕ) (w : ℕ) (found : Record) → IsRecord bytes w found → kind (word bytes w) ≡ head_kind (sort_of found)
handed_kind bytes w (is.Read part) h = h.0
handed_kind bytes w (is.Write part) h = h.0

module _ {V : Type 0} (reads : ℕ → Option V) (bytes : List ℕ) (i : ℕ) (found : Record) (row : Row ℕ) (passed : first_failed (record_kinds bytes (3 * i)) ≡ None) (handed : IsRecord bytes (3 * i) found) (made : row ≡ pattern_row (sort_of found) bytes (3 * i)) where
  -- a record that passes every check holds the row that was made of it
  pub record_holds : (v : Row V) → Valued reads row v → RecordAt reads bytes i v
  record_holds v h =
      let kinds = kinds_pass _ _ _ _ _ _ passed in
      let same : v.sort ≡ sort_of found = ap (λ (x : Row V). x.sort) h.rest ∙ ap (λ (x : Row ℕ). x.sort) made in
      let start : v.start ≡ row.start = ap (λ (x : Row V). x.start) h.rest in
      let finish : v.finish ≡ row.finish = ap (λ (x : Row V). x.finish) h.rest in
      record {
        sort = handed_kind bytes (3 * i) found handed ∙ ap head_kind (sym same);
        start_kind = eqb-true _ _ kinds.0;
        finish_kind = eqb-true _ _ kinds.1;
        bay = ap (λ (x : Row V). x.bay) h.rest ∙ ap (λ (x : Row ℕ). x.bay) made;
        cabinet = ap (λ (x : Row V). x.cabinet) h.rest ∙ ap (λ (x : Row ℕ). x.cabinet) made;
        value = ap (λ (x : Row ℕ). reads x.value) (sym made) ∙ h.value;
        start = start ∙ ap (λ (x : Row ℕ). x.start) made;
        finish = finish ∙ ap (λ (x : Row ℕ). x.finish) made;
        timely = omega (arith, h.timely, start, finish);
      }

  -- it passes every check
  pub record_passes : (v : Row V) → Valued reads row v → first_failed (record_checks reads bytes i) ≡ None
  record_passes v h =
      let t = h.timely in
      passed_then (map (λ c. (c.0, refusal 3 c.1 layer.WordsInTable)) (record_kinds bytes (3 * i))) (value_checks reads (pattern_row Read bytes (3 * i)) i) (passed_as (λ w. refusal 3 w layer.WordsInTable) (record_kinds bytes (3 * i)) passed)
      ∙ ap (λ (x : Row ℕ). first_failed (value_checks reads x i)) (sym made)
      ∙ two_passed (is_some (reads row.value)) (leb row.start row.finish) (refusal 4 i layer.Table) (refusal 5 i layer.Table) [] (ap is_some h.value) (le-leb row.start row.finish t)

  -- the refusal of its value, or of its ticks, is its first
  pub value_fails : (e : Refusal) → first_failed (value_checks reads row i) ≡ Some e → first_failed (record_checks reads bytes i) ≡ Some e
  value_fails e h =
      passed_then (map (λ c. (c.0, refusal 3 c.1 layer.WordsInTable)) (record_kinds bytes (3 * i))) (value_checks reads (pattern_row Read bytes (3 * i)) i) (passed_as (λ w. refusal 3 w layer.WordsInTable) (record_kinds bytes (3 * i)) passed)
      ∙ ap (λ (x : Row ℕ). first_failed (value_checks reads x i)) (sym made) ∙ h

module _ {V : Type 0} (reads : ℕ → Option V) (bytes : List ℕ) where
  -- a word of the wrong kind is the first refusal of its record
  pub word_fails : (i w : ℕ) → first_failed (record_kinds bytes (3 * i)) ≡ Some w → first_failed (record_checks reads bytes i) ≡ Some (refusal 3 w layer.WordsInTable)
  word_fails i w h =
      failed_then (map (λ c. (c.0, refusal 3 c.1 layer.WordsInTable)) (record_kinds bytes (3 * i))) (value_checks reads (pattern_row Read bytes (3 * i)) i) (refusal 3 w layer.WordsInTable)
      (failed_as (λ w. refusal 3 w layer.WordsInTable) (record_kinds bytes (3 * i)) w h)

  module _ (short : length bytes ≤ 6144) (even : length bytes % 12 ≡ 0) where
    -- a file of whole records, and not too many, is left to its records
    whole_records : first_failed (table_checks reads bytes) ≡ first_failed (each_below (length bytes / 12) (record_checks reads bytes))
    whole_records = two_passed (leb (length bytes) 6144) (eqb (length bytes % 12) 0) (refusal 1 512 layer.Table) (refusal 2 (length bytes) layer.Table) (each_below (length bytes / 12) (record_checks reads bytes)) (le-leb (length bytes) 6144 short) (eq-eqb (length bytes % 12) 0 even)

    pub table_fails : (i : ℕ) (e : Refusal) → 12 * i + 12 ≤ length bytes → first_failed (each_below i (record_checks reads bytes)) ≡ None → first_failed (record_checks reads bytes i) ≡ Some e → first_failed (table_checks reads bytes) ≡ Some e
    table_fails i e lt h k = whole_records ∙ each_failed (record_checks reads bytes) (length bytes / 12) i e (omega arith) h k

    pub table_passes : (n : ℕ) → 12 * n ≡ length bytes → first_failed (each_below n (record_checks reads bytes)) ≡ None → first_failed (table_checks reads bytes) ≡ None
    table_passes n e h = let same : length bytes / 12 ≡ n = omega arith in whole_records ∙ ap (λ m. first_failed (each_below m (record_checks reads bytes))) same ∙ h

-- what the reader handed out, at the file and the record where it stood
module _ (bs file : List ℕ) (w i w' : ℕ) (same : bs ≡ file) (place : w ≡ 3 * i) where
  pub handed_here : (r : Result (Option Record) WrongKind) → Handed bs w w' r → Handed file (3 * i) w' r
  handed_here r h = subst (λ (l : List ℕ). Handed l (3 * i) w' r) same (subst (λ (v : ℕ). Handed bs v w' r) place h)

twelve_bytes : (bytes : List ℕ) (w : ℕ) → 4 * w + 12 ≤ length bytes → length (record_bytes bytes w) ≡ 12
twelve_bytes bytes w h = let d = length-drop (4 * w) bytes in length-take-le 12 (drop (4 * w) bytes) (omega arith)

-- a record that was handed out has twelve bytes
pub twelve : (bytes : List ℕ) (w : ℕ) (found : Record) → 4 * w + 12 ≤ length bytes → IsRecord bytes w found → length (bytes_of found) ≡ 12
twelve bytes w (is.Read part) h k = ap length k.1 ∙ twelve_bytes bytes w h
twelve bytes w (is.Write part) h k = ap length k.1 ∙ twelve_bytes bytes w h
