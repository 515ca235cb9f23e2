-- The words of a file and what they hold. Assumes nothing.
use Rattle.std.specs.Prelude.{ℕ, ◌+◌, ◌*◌, ◌/◌, ◌%◌, ◌^◌, List, slice_index}

-- word j of the bytes: 32 bits, high byte first
abbrev pub word : List ℕ → ℕ → ℕ
word bytes j = ((slice_index bytes (4 * j) * 256 + slice_index bytes (4 * j + 1)) * 256 + slice_index bytes (4 * j + 2)) * 256 + slice_index bytes (4 * j + 3)

-- the top two bits are a word's kind, the low 30 bits are what it holds
abbrev pub kind : ℕ → ℕ
kind w = w / 2 ^ 30

abbrev pub content : ℕ → ℕ
content w = w % 2 ^ 30

-- the content of a record's first word: 6 bits bay, 6 bits cabinet, 18 bits pattern
abbrev pub bay_of : ℕ → ℕ
bay_of head = head / 2 ^ 24 % 64

abbrev pub cabinet_of : ℕ → ℕ
cabinet_of head = head / 2 ^ 18 % 64

abbrev pub pattern_of : ℕ → ℕ
pattern_of head = head % 2 ^ 18
