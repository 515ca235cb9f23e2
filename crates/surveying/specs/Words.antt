-- How a report is written. Assumes nothing.
use Rattle.std.specs.Prelude.{ℕ, List, ◌++◌, codes, decimal}
use Rattle.surveying.specs.declared.report.Report.{Report}

-- as `age 2 trials 3 kept 3`
abbrev pub report_words : Report → List ℕ
report_words r = codes "age " ++ (decimal r.age ++ (codes " trials " ++ (decimal r.trials ++ (codes " kept " ++ decimal r.kept))))
