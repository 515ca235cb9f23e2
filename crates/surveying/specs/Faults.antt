-- The lowest places of operations that a survey refuses. Assumes nothing.
use Rattle.std.specs.Prelude.{◌≡◌, ℕ, ◌<◌, ◌≤◌, min, Bool, List, length, Some, None, Ok, Err, Option, Result}
use Rattle.bays.specs.Faults.{written_twice, unwritten, foreseen, faulty, value_checks, Lowest}
use Rattle.gathering.specs.declared.faults.Faults.{Faults}
use Rattle.operations.specs.Checks.{first_failed}
use Rattle.operations.specs.declared.refusal.Layer.TheVariants.{Survey}
use Rattle.orders.specs.Orders.{Operation, whole, write_count}
use Rattle.surveying.specs.declared.refusal.SurveyRefusal.{SurveyRefusal}
use Rattle.surveying.specs.Refusals.{survey_refusal}
use Rattle.surveying.specs.Surveying.{crane_bays, survey_answer}

-- the lower of two places that may be there
abbrev pub lower_of : Option ℕ → Option ℕ → Option ℕ
lower_of (Some p) (Some q) = Some (min p q)
lower_of (Some p) None = Some p
lower_of None q = q

-- the lower place of each fault
abbrev pub joined : Faults → Faults → Faults
joined one other = record { written_twice = lower_of one.written_twice other.written_twice; unwritten = lower_of one.unwritten other.unwritten; foreseen = lower_of one.foreseen other.foreseen }

-- the lowest place of a held operation with each fault
pub record FaultsOf (ops : List Operation) (held : Operation → Bool) (faults : Faults) : Type 0 where
  pub twice : Lowest (length ops) (faulty held written_twice ops) faults.written_twice
  pub lacking : Lowest (length ops) (faulty held unwritten ops) faults.unwritten
  pub early : Lowest (length ops) (faulty held foreseen ops) faults.foreseen

-- no bay below n has more than 64 writes
abbrev pub FewWrites : List Operation → ℕ → Type 0
FewWrites ops n = (b : ℕ) → b < n → write_count ops b ≤ 64

-- what is left to judge: few writes a bay, and no faults
pub record Spared (ops : List Operation) : Type 0 where
  pub few : FewWrites ops crane_bays
  pub passed : first_failed (value_checks ops whole Survey) ≡ None

-- a survey of these operations refuses so, where the limit and the number of operations are taken
abbrev pub Refuses : List Operation → SurveyRefusal → Type 0
Refuses ops e = (limit : ℕ) → 1 ≤ limit → limit ≤ 1000000 → length ops ≤ 512 → survey_answer ops limit ≡ Err (survey_refusal e)

-- operations are spared, or refused
abbrev pub Spares : List Operation → Result (Unit {0}) SurveyRefusal → Type 0
Spares ops (Ok done) = Spared ops
Spares ops (Err e) = Refuses ops e
