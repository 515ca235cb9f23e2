-- The survey of a table and a list of bays as text. Assumes nothing.
use Rattle.std.specs.Prelude.{◌≡◌, ℕ, ◌⊎◌, List, length, Ok, Err, string_bytes, String, Option, Result, ⊤}
use Rattle.std.specs.declared.alloc.Global.{Global}
use Rattle.leaving.specs.Leaving.{unlisted, BaysUpTo}
use Rattle.operations.specs.declared.row.Row.{Row}
use Rattle.orders.specs.Orders.{Operation}
use Rattle.relations.specs.Meanings.{told}
use Rattle.reports.specs.Reporting.{Listed, BaysRefused}
use Rattle.reports.specs.declared.unreported.Unreported.{Unreported}
use Rattle.reports.specs.declared.unreported.Unreported.TheVariants.{NoTable, Refused, NoMemory}
use Rattle.surveying.specs.Surveying.{survey_answer}
use Rattle.surveying.specs.declared.report.Report.{Report}
use Rattle.summaries.specs.Summaries.{survey_words}

-- what is said of the survey of operations with this limit: its words, or its refusal
abbrev pub Said : List Operation → (limit : ℕ) → Result (String Global) Unreported → Type 0
Said ops limit (Ok text) = (report : Report) × (survey_answer ops limit ≡ Ok report) × (string_bytes text ≡ survey_words ops report)
Said ops limit (Err NoTable) = ⊥
Said ops limit (Err (Refused e)) = survey_answer ops limit ≡ Err e
Said ops limit (Err (NoMemory e)) = ⊤

-- The same of a table's rows without the bays of a list file that may be missing. Where the list is good, what is said is the
-- survey of the operations that are kept.
abbrev pub Summarised : {V : Type 0} → (V → ℕ × ℕ) → List (Row V) → (limit : ℕ) → Option (List ℕ) → Result (String Global) Unreported → Type 0
Summarised meaning rows limit file (Ok text) = (bays : List ℕ) × Listed file bays × BaysUpTo bays (length bays) × Said (told meaning (unlisted bays rows)) limit (Ok text)
Summarised meaning rows limit file (Err NoTable) = ⊥
Summarised meaning rows limit file (Err (Refused e)) = BaysRefused file e ⊎ ((bays : List ℕ) × Listed file bays × BaysUpTo bays (length bays) × Said (told meaning (unlisted bays rows)) limit (Err (Refused e)))
Summarised meaning rows limit file (Err (NoMemory e)) = ⊤
