-- The faults that are found decide the checks of the values. Assumes nothing.
use Rattle.std.proofs.Common.{◌≡◌, ℕ, Bool, List, length, Some, None, Ok, Option, subst}
use Rattle.operations.specs.Checks.{first_failed}
use Rattle.operations.specs.declared.refusal.Layer.{Layer}
use Rattle.orders.specs.Claims.{Judgeable}
use Rattle.orders.specs.Orders.{Operation, Timed}
use Rattle.bays.specs.Faults.{Lowest, faulty, written_twice, unwritten, foreseen, value_checks}
use Rattle.bays.proofs.Checked.{faultless, fails_13, fails_14, fails_15, judgeable}
use Rattle.gathering.specs.Faults.{Refuses, Spares, fault_refusal}
use Rattle.gathering.specs.declared.faults.Fault.{Fault}
use Rattle.gathering.specs.declared.faults.Fault.TheVariants.{WrittenTwice, Unwritten, Foreseen}
use Rattle.gathering.specs.declared.faults.Faults.{Faults}

module _ (ops : List Operation) (held : Operation → Bool) (f : Faults) where
  abbrev Finds : (List Operation → ℕ → Bool) → Option ℕ → Type 0
  Finds fault place = Lowest (length ops) (faulty held fault ops) place

  -- a fault is refused, and what comes after it need not be known
  pub first_fault : Finds written_twice f.written_twice → Finds unwritten f.unwritten → (f.unwritten ≡ None → Finds foreseen f.foreseen) → (by : Layer) (e : Fault) → Refuses f e → first_failed (value_checks ops held by) ≡ Some (fault_refusal by e)
  first_fault once sourced unforeseen by (WrittenTwice place) r = fails_13 ops held by place (subst (Finds written_twice) r once)
  first_fault once sourced unforeseen by (Unwritten place) r = fails_14 ops held by (subst (Finds written_twice) r.0 once) place (subst (Finds unwritten) r.1 sourced)
  first_fault once sourced unforeseen by (Foreseen place) r = fails_15 ops held by (subst (Finds written_twice) r.0 once) (subst (Finds unwritten) r.1 sourced) place (subst (Finds foreseen) r.2 (unforeseen r.1))

  module _ (once : Finds written_twice f.written_twice) (sourced : Finds unwritten f.unwritten) (unforeseen : Finds foreseen f.foreseen) where
    -- so it is where all are known,
    pub refused_fault : (by : Layer) (e : Fault) → Refuses f e → first_failed (value_checks ops held by) ≡ Some (fault_refusal by e)
    refused_fault = first_fault once sourced (λ none. unforeseen)

    module _ (spared : Spares f (Ok tt)) where
      -- and where there is none no check fails,
      pub spared_faults : (by : Layer) → first_failed (value_checks ops held by) ≡ None
      spared_faults by = faultless ops held by (subst (Finds written_twice) spared.0 once) (subst (Finds unwritten) spared.1 sourced) (subst (Finds foreseen) spared.2 unforeseen)

      -- and the operations can be judged
      pub spared_judgeable : Timed ops → Judgeable ops held
      spared_judgeable timed = judgeable ops held timed (subst (Finds written_twice) spared.0 once) (subst (Finds unwritten) spared.1 sourced) (subst (Finds foreseen) spared.2 unforeseen)
