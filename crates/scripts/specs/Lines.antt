-- What the lines of a script say. Assumes nothing.
use Rattle.std.specs.Prelude.{◌≡◌, ℕ, Bool, true, List, [], ◌∷◌, ◌++◌, Some, None, Option, codes, decimal, ◌==◌}
use Rattle.values.specs.Words.{serial_words}
use Rattle.replaying.specs.Words.{call_words}
use Rattle.scripts.specs.declared.line.Line.{Line}
use Rattle.scripts.specs.declared.line.Line.TheVariants.{Open, Storage, Call}

-- a line that says nothing is empty, or begins with #
abbrev pub passed_over : List ℕ → Bool
passed_over [] = true
passed_over (c ∷ cs) = c == 35

-- as `open 5`, `storage 512` or a call
abbrev pub line_text : Line → List ℕ
line_text (Open first) = codes "open " ++ decimal first
line_text (Storage entries) = codes "storage " ++ decimal entries
line_text (Call call) = call_words serial_words call

-- the text is a line that says this, or one that says nothing
abbrev pub Says : List ℕ → Option Line → Type 0
Says text None = passed_over text ≡ true
Says text (Some line) = text ≡ line_text line
