-- What is found of one bay of rows. Assumes nothing.
use Rattle.std.proofs.Common.{◌≡◌, ℕ, ◌<◌, ◌≤◌, List, length, Some, None, Ok, Err, Result, subst, sym, refl, ap, ◌∙◌, inl, inr, arith}
use Rattle.std.specs.Result.{result_or}
use Rattle.std.proofs.lemmas.Bool.{cond-true, cond-false, le-leb, lt-leb}
use Rattle.std.proofs.lemmas.List.{length-map}
use Rattle.bays.specs.Faults.{value_checks}
use Rattle.bays.proofs.Ranks.{places_count}
use Rattle.gathering.specs.Faults.{Refuses, Spares, Unspares, fault_refusal}
use Rattle.gathering.specs.Gathering.{Gathered}
use Rattle.gathering.specs.declared.bay.Bay.{Bay}
use Rattle.gathering.specs.declared.faults.Fault.{Fault}
use Rattle.gathering.specs.declared.faults.Unspared.TheVariants.{Faulty}
use Rattle.gathering.proofs.Spared.{refused_fault, spared_faults, spared_judgeable}
use Rattle.lists.specs.Lists.{listed}
use Rattle.gathering.specs.Spans.{spans}
use Rattle.operations.specs.Checks.{first_failed}
use Rattle.operations.specs.Refusals.{refusal}
use Rattle.operations.specs.declared.refusal.Layer.TheVariants.{Judge}
use Rattle.orders.specs.Claims.{Judgeable}
use Rattle.orders.specs.Orders.{Operation, of_bay, write_count, Timed}
use Rattle.searching.specs.declared.search.NotFound.{NotFound}
use Rattle.trying.specs.Trying.{JudgedWithin}
use Rattle.trying.specs.declared.order.BayOrder.{BayOrder}
use Rattle.judging.specs.declared.refusal.JudgeRefusal.{JudgeRefusal}
use Rattle.judging.specs.declared.refusal.JudgeRefusal.TheVariants.{TooManyWrites, OverLimit}
use Rattle.judging.specs.Checks.{bay_checks}
use Rattle.judging.specs.Refusals.{judge_refusal}
use Rattle.judging.specs.Rows.{RowsJudged}

-- a bay with too many writes
pub rows_many : (ops : List Operation) (b limit : ℕ) → 64 < write_count ops b → RowsJudged ops b limit (Err (TooManyWrites b))
rows_many ops b limit h = inl (cond-false _ (first_failed (value_checks ops (of_bay b) Judge)) (Some (refusal 12 b Judge)) (lt-leb (write_count ops b) 64 h))

-- the checks of the bay are those of its values, where it has no more writes than it may have
few : (ops : List Operation) (b : ℕ) → write_count ops b ≤ 64 → first_failed (bay_checks ops b) ≡ first_failed (value_checks ops (of_bay b) Judge)
few ops b h = cond-true _ (first_failed (value_checks ops (of_bay b) Judge)) (Some (refusal 12 b Judge)) (le-leb (write_count ops b) 64 h)

-- one that is refused for a fault, as soon as no other refusal can come first
pub unspared_faulty : (ops : List Operation) (b limit : ℕ) (e : Fault) (r : JudgeRefusal) → Unspares ops b (Faulty e) → judge_refusal r ≡ fault_refusal Judge e → RowsJudged ops b limit (Err r)
unspared_faulty ops b limit e r f same = inl (few ops b f.0 ∙ f.1 Judge ∙ ap Some (sym same))

module _ (ops : List Operation) (b : ℕ) (bay : Bay) (gathered : Gathered ops b bay) (limit : ℕ) where
  -- one that was gathered has no more writes than it may have,
  gathered_few : first_failed (bay_checks ops b) ≡ first_failed (value_checks ops (of_bay b) Judge)
  gathered_few = few ops b (omega (arith, gathered.writes.few, length-map (spans (listed bay.writes)) (λ w. w.place), ap length gathered.writes.ranked, places_count ops b))

  -- so with a fault it is refused for that
  pub rows_faulty : (e : Fault) (r : JudgeRefusal) → Refuses bay.faults e → judge_refusal r ≡ fault_refusal Judge e → RowsJudged ops b limit (Err r)
  rows_faulty e r f same = inl (gathered_few ∙ refused_fault ops (of_bay b) bay.faults gathered.once gathered.sourced gathered.unforeseen Judge e f ∙ ap Some (sym same))

module _ (ops : List Operation) (b : ℕ) (bay : Bay) (gathered : Gathered ops b bay) (limit : ℕ) (spared : Spares bay.faults (Ok tt)) where
  passed : first_failed (bay_checks ops b) ≡ None
  passed =
      gathered_few ops b bay gathered limit
      ∙ spared_faults ops (of_bay b) bay.faults gathered.once gathered.sourced gathered.unforeseen spared Judge

  -- without a fault it can be judged,
  pub bay_judgeable : Timed ops → Judgeable ops (of_bay b)
  bay_judgeable timed = spared_judgeable ops (of_bay b) bay.faults gathered.once gathered.sourced gathered.unforeseen spared timed

  judged_told : (r : Result BayOrder NotFound) → Judgeable ops (of_bay b) → JudgedWithin ops b limit r → RowsJudged ops b limit (result_or r (Err (OverLimit b)))
  judged_told (Ok o) ready j = (passed, ready, j)
  judged_told (Err e) ready j = inr (passed, j, refl)

  -- unless its trials pass the limit
  pub rows_told : {trials : ℕ} (r : Result BayOrder NotFound) → Judgeable ops (of_bay b) → JudgedWithin ops b trials r → trials ≡ limit → RowsJudged ops b limit (result_or r (Err (OverLimit b)))
  rows_told r ready j same = judged_told r ready (subst (λ n. JudgedWithin ops b n r) same j)
