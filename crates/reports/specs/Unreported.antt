-- What is said where there is no report. Assumes nothing.
use Rattle.std.specs.Prelude.{ℕ, List, codes, Some, None, Option}
use Rattle.operations.specs.Words.{refusal_words}
use Rattle.reports.specs.declared.unreported.Unreported.{Unreported}
use Rattle.reports.specs.declared.unreported.Unreported.TheVariants.{NoTable, Refused, NoMemory}

-- a missing table and a refusal are said in one line; how a want of memory is said is not fixed
abbrev pub unreported_output : Unreported → Option (List ℕ)
unreported_output NoTable = Some (codes "no table")
unreported_output (Refused e) = Some (refusal_words e)
unreported_output (NoMemory e) = None
