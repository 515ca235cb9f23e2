-- What a survey refuses of rows, and what it spares. Assumes nothing.
use Rattle.std.proofs.Common.{◌≡◌, ℕ, ◌<◌, ◌≤◌, List, length, Ok, Err, sym, refl, ap, ◌∙◌, arith}
use Rattle.std.proofs.lemmas.List.{length-map}
use Rattle.bays.proofs.Ranks.{places_count}
use Rattle.gathering.specs.Faults as fault
use Rattle.gathering.specs.Gathering.{Gathered}
use Rattle.gathering.specs.declared.faults.Fault.{Fault}
use Rattle.gathering.specs.declared.bay.Bay.{Bay}
use Rattle.gathering.specs.declared.faults.Faults.{Faults}
use Rattle.gathering.specs.Spans.{Span, spans}
use Rattle.gathering.proofs.Spared.{refused_fault, spared_faults}
use Rattle.lists.specs.Lists.{listed}
use Rattle.operations.specs.Rows.{AllValid}
use Rattle.operations.specs.declared.refusal.Layer.TheVariants.{Survey}
use Rattle.operations.specs.declared.row.Row.{Row}
use Rattle.orders.specs.Orders.{Operation, of_bay, whole, write_count}
use Rattle.relations.specs.Meanings.{told}
use Rattle.relations.proofs.Told.{told_bays}
use Rattle.surveying.specs.declared.refusal.SurveyRefusal.{SurveyRefusal}
use Rattle.surveying.specs.declared.refusal.SurveyRefusal.TheVariants.{TooManyWrites}
use Rattle.surveying.specs.Faults.{FaultsOf, FewWrites, Spared, Refuses}
use Rattle.surveying.specs.Laws.{InCrane}
use Rattle.surveying.specs.Refusals.{survey_refusal}
use Rattle.surveying.specs.Surveying.{crane_bays, report_of, answer_by}
use Rattle.surveying.proofs.Answering.{fails_12, values_failed}

pub crane_is : crane_bays ≡ 64
unfolding crane_bays
crane_is = refl

-- each operation that is told is of a bay of the crane
pub told_inside : {V : Type 0} (m : V → ℕ × ℕ) (rows : List (Row V)) → AllValid rows → InCrane (told m rows)
told_inside m rows v p h = omega (arith, crane_is, told_bays m rows v p h)

module _ (ops : List Operation) (b : ℕ) (bay : Bay) (gathered : Gathered ops b bay) where
  -- a gathered bay has few writes,
  pub gathered_few : write_count ops b ≤ 64
  gathered_few = omega (arith, gathered.writes.few, ap length gathered.writes.ranked, length-map (spans (listed bay.writes)) (λ (w : Span). w.place), places_count ops b)

  -- and its faults are those of its operations
  pub gathered_faults : FaultsOf ops (of_bay b) bay.faults
  gathered_faults = record { twice = gathered.once; lacking = gathered.sourced; early = gathered.unforeseen }

module _ (ops : List Operation) where
  -- the lowest bay with too many writes
  pub refuses_12 : (b : ℕ) → b < crane_bays → FewWrites ops b → 64 < write_count ops b → Refuses ops (TooManyWrites b)
  refuses_12 b inside few many limit least most short = ap (answer_by (report_of ops)) (fails_12 ops limit least most short b inside few many)

  module _ (faults : Faults) (few : FewWrites ops crane_bays) (found : FaultsOf ops whole faults) where
    -- a fault that none comes before
    pub refuses_fault : (e : Fault) (r : SurveyRefusal) → fault.Refuses faults e → survey_refusal r ≡ fault.fault_refusal Survey e → Refuses ops r
    refuses_fault e r f same limit least most short =
        ap (answer_by (report_of ops)) (values_failed ops limit (record { least = least; most = most; short = short; few = few }) (fault.fault_refusal Survey e) (refused_fault ops whole faults found.twice found.lacking found.early Survey e f))
        ∙ ap Err (sym same)

    -- and where there is none the operations are spared
    pub spared : fault.Spares faults (Ok tt) → Spared ops
    spared s = record { few = few; passed = spared_faults ops whole faults found.twice found.lacking found.early s Survey }
