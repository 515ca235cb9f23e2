-- What is reported of one bay of a table of serials. Assumes nothing.
use Rattle.std.specs.Prelude.{◌≡◌, ℕ, List, Some, None, Option}
use Rattle.values.specs.Patterns.{serial_of, serial_meaning}
use Rattle.values.specs.declared.serial.Serial.{Serial}
use Rattle.operations.specs.declared.row.Row.{Row}
use Rattle.tables.specs.Records.{Shows}
use Rattle.judging.specs.Judging.{Reported}
use Rattle.relations.specs.Meanings.{told}
use Rattle.judging.specs.declared.judgment.Judgment.{Judgment}

-- a report is the judge's of the rows that the table shows; where there is none the sheet is as it was
abbrev pub TableJudged : (bytes : List ℕ) (bay limit : ℕ) (sheet sheet' : List ℕ) → Option Judgment → Type 0
TableJudged bytes bay limit sheet sheet' None = sheet' ≡ sheet
TableJudged bytes bay limit sheet sheet' (Some j) = (rows : List (Row Serial)) × Shows serial_of bytes rows × Reported (told serial_meaning rows) bay limit sheet sheet' j

-- the age and the trials of a report, or 0 where there is none
abbrev pub age_of : Option Judgment → ℕ
age_of None = 0
age_of (Some j) = j.age

abbrev pub trials_of : Option Judgment → ℕ
trials_of None = 0
trials_of (Some j) = j.trials
