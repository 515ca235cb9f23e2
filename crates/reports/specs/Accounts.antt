-- The account of a table and a list of bays, as text. Assumes nothing.
use Rattle.std.specs.Prelude.{ℕ, zero, suc, ◌+◌, Bool, cond, List, [], ◌∷◌, ◌++◌, length, codes, decimal}
use Rattle.leaving.specs.Leaving.{lists, unlisted}
use Rattle.operations.specs.Words.{sort_words}
use Rattle.operations.specs.declared.row.Row.{Row}

-- as ` 3 5`: the numbers below n that pass the test
unfoldable pub bays_words : (ℕ → Bool) → ℕ → List ℕ
bays_words left_out zero = []
bays_words left_out (suc n) = bays_words left_out n ++ cond (left_out n) (codes " " ++ decimal n) []

-- ` none` where no number is named
abbrev pub or_none : List ℕ → List ℕ
or_none [] = codes " none"
or_none (c ∷ cs) = c ∷ cs

-- as `0 write bay 3 cabinet 5`
abbrev pub acting_words : {V : Type 0} → ℕ → Row V → List ℕ
acting_words place r = decimal place ++ (codes " " ++ (sort_words r.sort ++ (codes " bay " ++ (decimal r.bay ++ (codes " cabinet " ++ decimal r.cabinet)))))

module _ {V : Type 0} (words : V → List ℕ) where
  -- a line, as `0 write bay 3 cabinet 5 serial 7 from 1 to 2`
  abbrev pub row_words : ℕ → Row V → List ℕ
  row_words place r = acting_words place r ++ (codes " " ++ (words r.value ++ (codes " from " ++ (decimal r.start ++ (codes " to " ++ (decimal r.finish ++ codes "\n"))))))

  -- the lines of operations, whose first has this place
  abbrev pub rows_words : ℕ → List (Row V) → List ℕ
  rows_words place [] = []
  rows_words place (r ∷ rs) = row_words place r ++ rows_words (place + 1) rs

  -- each operation by its place, and how many they are
  abbrev pub kept_words : List (Row V) → List ℕ
  kept_words rows = rows_words 0 rows ++ (codes "kept " ++ decimal (length rows))

  -- how many records the table has, which bays are left out, and the operations that are kept
  abbrev pub told_words : ℕ → (ℕ → Bool) → List (Row V) → List ℕ
  told_words records left_out rows = codes "records " ++ (decimal records ++ (codes "\nbays left out:" ++ (or_none (bays_words left_out 64) ++ (codes "\n" ++ kept_words rows))))

  -- the account of a table's rows, with these bays listed
  abbrev pub account_words : List (Row V) → List ℕ → List ℕ
  account_words rows bays = told_words (length rows) (lists bays) (unlisted bays rows)
