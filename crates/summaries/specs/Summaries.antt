-- A survey as text. Assumes nothing.
use Rattle.std.specs.Prelude.{ℕ, zero, suc, ◌+◌, cond, List, [], ◌∷◌, ◌++◌, take, drop, codes, decimal}
use Rattle.orders.specs.Orders.{Operation}
use Rattle.surveying.specs.declared.finding.Finding.{Finding}
use Rattle.surveying.specs.declared.report.Report.{Report}
use Rattle.surveying.specs.Surveying.{crane_bays, judged_age, judged_order, has_operation}
use Rattle.surveying.specs.Words.{report_words}

-- as ` 0 1`
abbrev pub places_words : List ℕ → List ℕ
places_words [] = []
places_words (p ∷ ps) = (codes " " ++ decimal p) ++ places_words ps

-- a line more, as `bay 3 age 2 order 0 1`
abbrev pub bay_words : (bay age : ℕ) → List ℕ → List ℕ
bay_words bay age order = codes "\nbay " ++ (decimal bay ++ (codes " age " ++ (decimal age ++ (codes " order" ++ places_words order))))

-- how many writes the bays have
abbrev pub all_writes : List Finding → ℕ
all_writes [] = 0
all_writes (f ∷ fs) = f.writes + all_writes fs

-- the lines of findings, whose orders stand one behind the other
abbrev pub findings_words : List Finding → List ℕ → List ℕ
findings_words [] orders = []
findings_words (f ∷ fs) orders = bay_words f.bay f.age (take f.writes orders) ++ findings_words fs (drop f.writes orders)

-- the lines of the bays below n that have operations
abbrev pub bays_words : List Operation → ℕ → List ℕ
bays_words ops zero = []
bays_words ops (suc n) = bays_words ops n ++ cond (has_operation ops n) (bay_words n (judged_age ops n) (judged_order ops n)) []

-- a report, and a line for each bay with operations
abbrev pub survey_words : List Operation → Report → List ℕ
survey_words ops report = report_words report ++ bays_words ops crane_bays
