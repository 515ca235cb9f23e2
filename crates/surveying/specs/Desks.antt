-- What a desk holds. Assumes nothing.
use Rattle.std.specs.Prelude.{ℕ, List}
use Rattle.operations.specs.Rooms.{held}
use Rattle.surveying.specs.declared.desk.SurveyDesk.{SurveyDesk}
use Rattle.surveying.specs.declared.finding.Finding.{Finding}

abbrev pub desk_findings : {V : Type 0} → SurveyDesk V → List Finding
desk_findings desk = held desk.kept.findings

abbrev pub desk_orders : {V : Type 0} → SurveyDesk V → List ℕ
desk_orders desk = held desk.kept.orders
