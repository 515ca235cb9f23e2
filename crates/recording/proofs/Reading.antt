-- A table that was written is read as its rows. Assumes nothing.
use Rattle.std.proofs.Common.{◌≡◌, ℕ, ◌+◌, ◌*◌, ◌^◌, ◌<◌, ◌≤◌, List, [], ◌∷◌, length, take, get_or, Some, refl, sym, ap, ◌∙◌, arith}
use Rattle.std.specs.Int.{byte_at}
use Rattle.std.specs.List.{flat_map}
use Rattle.std.proofs.lemmas.List.{length-append, length-take-le}
use Rattle.std.proofs.lemmas.List.Concat.{get_or-flat_map}
use Rattle.operations.specs.declared.row.Row.{Row}
use Rattle.operations.specs.declared.row.Sort.{Sort}
use Rattle.operations.specs.declared.row.Sort.TheVariants.{Read, Write}
use Rattle.operations.specs.Rows.{Valid}
use Rattle.words.specs.Words.{word, kind, content, bay_of, cabinet_of, pattern_of}
use Rattle.tables.specs.Records.{RecordAt, Shows, head_kind}
use Rattle.recording.specs.Files.{head, start_word, finish_word, record_bytes, table_bytes, Recordable}

-- twelve bytes are written of each row
length-table : (rows : List (Row ℕ)) → length (table_bytes rows) ≡ 12 * length rows
length-table [] = refl
length-table (row ∷ rows) = let e = length-table rows in let f = length-append (record_bytes row) (table_bytes rows) in omega (arith, e, f)

-- a number below 2 ^ 32 is what its four bytes make
four_bytes : (n : ℕ) → n < 2 ^ 32 → ((byte_at 3 n * 256 + byte_at 2 n) * 256 + byte_at 1 n) * 256 + byte_at 0 n ≡ n
four_bytes n h = omega (arith, h)

-- the first word of a record has kind 1 or 2
kind_fits : (sort : Sort) → head_kind sort ≤ 2
kind_fits Read = omega arith
kind_fits Write = omega arith

module _ (row : Row ℕ) where
  head_fits : head row < 2 ^ 32
  head_fits = omega (arith, kind_fits row.sort)

  head_is : Valid row → row.value < 2 ^ 18 → (kind (head row) ≡ head_kind row.sort) × (bay_of (head row) ≡ row.bay) × (cabinet_of (head row) ≡ row.cabinet) × (pattern_of (head row) ≡ row.value)
  head_is h v = (omega (arith, kind_fits row.sort), omega (arith, h), omega (arith, h), omega (arith, v))

module _ (rows : List (Row ℕ)) (i : ℕ) (d : Row ℕ) (within : i < length rows) where
  -- byte j of a row's record
  byte : (j k : ℕ) → j < 12 → 12 * i + j ≡ k → get_or (table_bytes rows) k 0 ≡ get_or (record_bytes (get_or rows i d)) j 0
  byte j k h e =
      let few : i ≤ length rows = omega arith in
      let len = length-table (take i rows) ∙ ap (λ n. 12 * n) (length-take-le i rows few) in
      let same : k ≡ length (flat_map record_bytes (take i rows)) + j = omega (arith, len, e) in
      ap (λ n. get_or (table_bytes rows) n 0) same ∙ get_or-flat_map record_bytes rows i j d 0 within h

  -- word m of its record, whose bytes are those of n
  word_at : (m k n : ℕ) → m < 3 → 3 * i + m ≡ k → n < 2 ^ 32
      → get_or (record_bytes (get_or rows i d)) (4 * m) 0 ≡ byte_at 3 n
      → get_or (record_bytes (get_or rows i d)) (4 * m + 1) 0 ≡ byte_at 2 n
      → get_or (record_bytes (get_or rows i d)) (4 * m + 2) 0 ≡ byte_at 1 n
      → get_or (record_bytes (get_or rows i d)) (4 * m + 3) 0 ≡ byte_at 0 n
      → word (table_bytes rows) k ≡ n
  word_at m k n h e fits a b c z =
      let a' = byte (4 * m) (4 * k) (omega arith) (omega arith) ∙ a in
      let b' = byte (4 * m + 1) (4 * k + 1) (omega arith) (omega arith) ∙ b in
      let c' = byte (4 * m + 2) (4 * k + 2) (omega arith) (omega arith) ∙ c in
      let z' = byte (4 * m + 3) (4 * k + 3) (omega arith) (omega arith) ∙ z in
      let made : word (table_bytes rows) k ≡ ((byte_at 3 n * 256 + byte_at 2 n) * 256 + byte_at 1 n) * 256 + byte_at 0 n = cc in
      made ∙ four_bytes n fits

  record_at : Valid (get_or rows i d) → (get_or rows i d).value < 2 ^ 18 → RecordAt Some (table_bytes rows) i (get_or rows i d)
  record_at valid pattern =
      let row = get_or rows i d in
      let first = word_at 0 (3 * i) (head row) (omega arith) (omega arith) (head_fits row) refl refl refl refl in
      let start = word_at 1 (3 * i + 1) (start_word row) (omega arith) (omega arith) (omega arith) refl refl refl refl in
      let finish = word_at 2 (3 * i + 2) (finish_word row) (omega arith) (omega arith) (omega arith) refl refl refl refl in
      let parts = head_is row valid pattern in
      let start_is : content (start_word row) ≡ row.start = omega (arith, valid) in
      let finish_is : content (finish_word row) ≡ row.finish = omega (arith, valid) in
      let start_kind : kind (start_word row) ≡ 0 = omega arith in
      let finish_kind : kind (finish_word row) ≡ 3 = omega arith in
      record {
        sort = ap kind first ∙ parts.0;
        start_kind = ap kind start ∙ start_kind;
        finish_kind = ap kind finish ∙ finish_kind;
        bay = sym (ap bay_of first ∙ parts.1);
        cabinet = sym (ap cabinet_of first ∙ parts.2);
        value = ap (λ w. Some (pattern_of w)) first ∙ ap Some parts.3;
        start = sym (ap content start ∙ start_is);
        finish = sym (ap content finish ∙ finish_is);
        timely = valid.2;
      }

-- the table of rows that can be recorded shows these rows
pub shows : (rows : List (Row ℕ)) → Recordable rows → Shows Some (table_bytes rows) rows
shows rows h = record {
  whole = sym (length-table rows);
  each = λ i d within. record_at rows i d within (h.0 i d within) (h.1 i d within);
}
