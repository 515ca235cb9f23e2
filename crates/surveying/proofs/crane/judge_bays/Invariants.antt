use Rattle.std.proofs.Common.{◌≡◌, ◌≤◌}
use Rattle.operations.specs.Rooms.{held}
use Rattle.orders.specs.Places.{top}
use Rattle.relations.specs.Meanings.{told}
use Rattle.surveying.specs.Surveying.{judged_age, trials_below, findings_below, orders_below}
use Rattle.surveying.proofs.crane.judge_bays.Given as goal

abbrev pub invariant-loop-number : goal.invariant-loop-number
invariant-loop-number g l =
    (l.age ≡ top l.number (judged_age (told g.V.Kind.meaning l.rows)))
    × (l.trials ≡ trials_below (told g.V.Kind.meaning l.rows) l.number)
    × (l.trials ≤ l.limit)
    × (held l.kept.findings ≡ findings_below (told g.V.Kind.meaning l.rows) l.number)
    × (held l.kept.orders ≡ orders_below (told g.V.Kind.meaning l.rows) l.number)
