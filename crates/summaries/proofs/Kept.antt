-- A survey of what is kept is a survey without the listed bays. Assumes nothing.
use Rattle.std.proofs.Common.{ℕ, List, length, Ok, Err, String, Global, Option, Result, inr}
use Rattle.leaving.specs.Leaving.{unlisted, BaysUpTo}
use Rattle.operations.specs.declared.row.Row.{Row}
use Rattle.relations.specs.Meanings.{told}
use Rattle.reports.specs.Reporting.{Listed}
use Rattle.reports.specs.declared.unreported.Unreported.{Unreported}
use Rattle.reports.specs.declared.unreported.Unreported.TheVariants.{NoTable, Refused, NoMemory}
use Rattle.summaries.specs.Summarising.{Said, Summarised}

module _ {V : Type 0} (meaning : V → ℕ × ℕ) (rows : List (Row V)) (limit : ℕ) (file : Option (List ℕ)) (bays : List ℕ) (listed : Listed file bays) (upto : BaysUpTo bays (length bays)) where
  pub summarised : (r : Result (String Global) Unreported) → Said (told meaning (unlisted bays rows)) limit r → Summarised meaning rows limit file r
  summarised (Ok text) said = (bays, listed, upto, said)
  summarised (Err NoTable) said = said
  summarised (Err (Refused e)) said = inr (bays, listed, upto, said)
  summarised (Err (NoMemory e)) said = said
