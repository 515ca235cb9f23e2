-- The numbers of the kinds of words in a file. Assumes nothing.
use Rattle.std.specs.Prelude.{ℕ}
use Rattle.words.specs.declared.reader.WordKind.{WordKind}
use Rattle.words.specs.declared.reader.WordKind.TheVariants.{Plain, Read, Write, Finish}

abbrev pub kind_number : WordKind → ℕ
kind_number Plain = 0
kind_number Read = 1
kind_number Write = 2
kind_number Finish = 3
