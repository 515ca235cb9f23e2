-- What is said of a report. Assumes nothing.
use Rattle.std.specs.Prelude.{◌≡◌, Some, Ok, Err, string_bytes, String, Result, ⊤}
use Rattle.std.specs.declared.alloc.AllocError.{AllocError}
use Rattle.std.specs.declared.alloc.Global.{Global}
use Rattle.reports.specs.Unreported.{unreported_output}
use Rattle.reports.specs.declared.unreported.Unreported.{Unreported}
use Rattle.reports.specs.declared.unreported.Unreported.TheVariants.{NoMemory}

-- a report is said as it is, and why there is none in its words; a want of memory is handed on
abbrev pub Says : Result (String Global) Unreported → Result (String Global) AllocError → Type 0
Says (Ok text) said = said ≡ Ok text
Says (Err (NoMemory error)) said = said ≡ Err error
Says (Err why) (Ok said) = unreported_output why ≡ Some (string_bytes said)
Says (Err why) (Err error) = ⊤
