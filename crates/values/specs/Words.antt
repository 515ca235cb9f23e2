-- How values are written in a report. Assumes nothing.
use Rattle.std.specs.Prelude.{ℕ, cond, List, [], ◌++◌, codes, decimal}
use Rattle.values.specs.declared.serial.Serial.{Serial}
use Rattle.values.specs.declared.stamp.Stamp.{Stamp}

-- as `serial 7`
abbrev pub serial_words : Serial → List ℕ
serial_words s = codes "serial " ++ decimal s.number

-- as `stamp 2.7`, or `stamp 2.7 resent`: the cabinet, the count and the mark
abbrev pub stamp_words : Stamp → List ℕ
stamp_words s = codes "stamp " ++ (decimal s.cabinet ++ (codes "." ++ (decimal s.count ++ cond s.resent (codes " resent") [])))
