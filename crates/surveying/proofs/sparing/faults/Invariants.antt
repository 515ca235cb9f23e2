use Rattle.relations.specs.Meanings.{told}
use Rattle.surveying.specs.Faults.{FaultsOf, FewWrites}
use Rattle.surveying.proofs.Lowering.{bays_below}
use Rattle.surveying.proofs.sparing.faults.Given as goal

abbrev pub invariant-loop-number : goal.invariant-loop-number
invariant-loop-number g l =
    FewWrites (told g.V.Kind.meaning l.rows) l.number
    × FaultsOf (told g.V.Kind.meaning l.rows) (bays_below l.number) l.found
