-- How sorts of operation and refusals are written in a report. Assumes nothing.
use Rattle.std.specs.Prelude.{ℕ, List, ◌++◌, codes, decimal}
use Rattle.operations.specs.declared.refusal.Layer.{Layer}
use Rattle.operations.specs.declared.refusal.Layer.TheVariants.{WordsInTable, WordsInList, Table, List as ListLayer, Source, Judge, Survey, Log}
use Rattle.operations.specs.declared.refusal.Refusal.{Refusal}
use Rattle.operations.specs.declared.row.Sort.{Sort}
use Rattle.operations.specs.declared.row.Sort.TheVariants.{Read, Write}

abbrev pub sort_words : Sort → List ℕ
sort_words Read = codes "read"
sort_words Write = codes "write"

abbrev pub layer_words : Layer → List ℕ
layer_words WordsInTable = codes "words.table"
layer_words WordsInList = codes "words.list"
layer_words Table = codes "table"
layer_words ListLayer = codes "list"
layer_words Source = codes "source"
layer_words Judge = codes "judge"
layer_words Survey = codes "survey"
layer_words Log = codes "log"

-- as `refused 3 at 7 by words.table`
abbrev pub refusal_words : Refusal → List ℕ
refusal_words e = codes "refused " ++ (decimal e.number ++ (codes " at " ++ (decimal e.place ++ (codes " by " ++ layer_words e.layer))))
