-- The words of a record's bytes are words of the file. Assumes nothing.
use Rattle.std.proofs.Common.{◌≡◌, ℕ, ◌+◌, ◌*◌, ◌<◌, List, get_or, drop, ap, ◌∙◌, arith}
use Rattle.std.proofs.lemmas.List.{get_or-take, get_or-drop}
use Rattle.operations.specs.declared.row.Sort.{Sort}
use Rattle.words.specs.Reading.{record_bytes}
use Rattle.words.specs.Rows.{pattern_row}
use Rattle.words.specs.Words.{word}

module _ (bytes : List ℕ) (w : ℕ) where
  byte_at : (i k : ℕ) → i < 12 → 4 * w + i ≡ k → get_or (record_bytes bytes w) i 0 ≡ get_or bytes k 0
  byte_at i k h e = get_or-take 12 (drop (4 * w) bytes) i 0 h ∙ get_or-drop (4 * w) bytes i 0 ∙ ap (λ x. get_or bytes x 0) e

  word_at : (j k : ℕ) → j < 3 → w + j ≡ k → word (record_bytes bytes w) j ≡ word bytes k
  word_at j k h e =
      let a = byte_at (4 * j) (4 * k) (omega arith) (omega arith) in
      let b = byte_at (4 * j + 1) (4 * k + 1) (omega arith) (omega arith) in
      let c = byte_at (4 * j + 2) (4 * k + 2) (omega arith) (omega arith) in
      let d = byte_at (4 * j + 3) (4 * k + 3) (omega arith) (omega arith) in
      cc

  -- the row of a record's bytes is that of the file's words
  pub part_row : (sort : Sort) → pattern_row sort (record_bytes bytes w) 0 ≡ pattern_row sort bytes w
  part_row sort =
      let a = word_at 0 w (omega arith) (omega arith) in
      let b = word_at 1 (w + 1) (omega arith) (omega arith) in
      let c = word_at 2 (w + 2) (omega arith) (omega arith) in
      cc
