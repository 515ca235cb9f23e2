-- What is found of bays, one more at a time. Assumes nothing.
use Rattle.std.proofs.Common.{◌≡◌, ℕ, zero, suc, ◌+◌, ◌≤◌, max, Bool, true, false, cond, ltb, List, [], ◌∷◌, ◌++◌, length, Ok, Err, Result, refl, sym, ap, ◌∙◌, append-nil, add-one, arith}
use Rattle.std.specs.Result.{result_or}
use Rattle.std.proofs.lemmas.List.{length_push}
use Rattle.lists.specs.Lists.{listed}
use Rattle.operations.specs.declared.refusal.Layer.TheVariants.{Survey}
use Rattle.operations.specs.declared.row.Row.{Row}
use Rattle.orders.specs.Claims.{Judgeable}
use Rattle.orders.specs.Orders.{Operation, of_bay, whole, write_count, Sourced}
use Rattle.orders.specs.Places.{total, top}
use Rattle.trying.specs.declared.order.BayOrder.{BayOrder}
use Rattle.relations.specs.Meanings.{told}
use Rattle.trying.specs.Trying.{JudgedWithin}
use Rattle.relations.proofs.Told.{told_timed}
use Rattle.searching.specs.declared.search.NotFound.{NotFound}
use Rattle.surveying.specs.declared.finding.Finding.{Finding}
use Rattle.surveying.specs.declared.refusal.SurveyRefusal.TheVariants.{OverLimit}
use Rattle.surveying.specs.Judged.{Judging, FoundIn, BayFound}
use Rattle.surveying.specs.Surveying.{judged_age, judged_trials, judged_order, has_operation, finding, findings_below, orders_below}
use Rattle.surveying.proofs.Adding.{orders_length, writes_few}
use Rattle.surveying.proofs.Outcomes.{overrun_more, bay_judged, judged_same, operations_written}
use Rattle.surveying.proofs.Spared.{spared_judgeable}

-- rows that are spared can be judged
pub rows_judgeable : {V : Type 0} (m : V → ℕ × ℕ) (rows : List (Row V)) → Judging m rows → Judgeable (told m rows) whole
rows_judgeable m rows j = spared_judgeable (told m rows) Survey j.spared.passed (told_timed m rows j.valid)

-- what judging a bay with so many trials left says
bay_found : (ops : List Operation) (b left : ℕ) (found : BayOrder) → Judgeable ops (of_bay b) → JudgedWithin ops b left (Ok found) → FoundIn ops b left found
bay_found ops b left found j w =
    let s = judged_same ops b found.age found.trials (judged_age ops b) (judged_trials ops b) (listed found.places) (judged_order ops b) w.0 (bay_judged ops b j) in
    record { age = s.0; trials = s.1; within = w.1; writes = w.2; order = s.2 }

-- or its trials are more
pub bay_told : (ops : List Operation) (b left : ℕ) → Judgeable ops (of_bay b) → (r : Result BayOrder NotFound) → JudgedWithin ops b left r → BayFound ops b left (result_or r (Err (OverLimit b)))
bay_told ops b left j (Ok found) w = bay_found ops b left found j w
bay_told ops b left j (Err e) w = (overrun_more ops b left j w, refl)

-- the largest age and the sum of one more
pub top_more : (f : ℕ → ℕ) (n a b r : ℕ) → a ≡ top n f → b ≡ f n → r ≡ max a b → r ≡ top (n + 1) f
top_more f n a b r e h k = omega (arith, ap (λ m. top m f) (add-one n))

pub total_more : (f : ℕ → ℕ) (n a b : ℕ) → a ≡ total n f → b ≡ f n → a + b ≡ total (n + 1) f
total_more f n a b e h = omega (arith, ap (λ m. total m f) (add-one n))

module _ (ops : List Operation) (n : ℕ) where
  -- the findings and orders of one bay more
  pub findings_more : (was is : List Finding) (age writes : ℕ) → Sourced ops whole → was ≡ findings_below ops n → age ≡ judged_age ops n → writes ≡ write_count ops n → is ≡ was ++ cond (ltb 0 writes) ((record { bay = n; age = age; writes = writes }) ∷ []) [] → is ≡ findings_below ops (n + 1)
  findings_more was is age writes sourced w a k e =
      e ∙ ap (λ l. l ++ more age writes) w ∙ ap (λ x. findings_below ops n ++ more x writes) a ∙ ap (λ x. findings_below ops n ++ more (judged_age ops n) x) k
      ∙ ap (λ b. findings_below ops n ++ cond b (finding ops n ∷ []) []) (sym (operations_written ops n sourced))
      ∙ ap (findings_below ops) (sym (add-one n))
    where
      more : ℕ → ℕ → List Finding
      more a k = cond (ltb 0 k) ((record { bay = n; age = a; writes = k }) ∷ []) []

  pub orders_more : (was is order : List ℕ) → was ≡ orders_below ops n → order ≡ judged_order ops n → is ≡ was ++ order → is ≡ orders_below ops (n + 1)
  orders_more was is order w o e = e ∙ ap (λ l. l ++ order) w ∙ ap (λ l. orders_below ops n ++ l) o ∙ ap (orders_below ops) (sym (add-one n))

  -- there is room for one more order
  pub orders_fit : Judgeable ops whole → length (orders_below ops n) + write_count ops n ≤ length ops
  orders_fit j = omega (arith, orders_length ops j n, writes_few ops (suc n))

-- there are no more findings than bays
pub findings_few : (ops : List Operation) (n : ℕ) → length (findings_below ops n) ≤ n
findings_few ops zero = omega arith
findings_few ops (suc n) = go (has_operation ops n) (findings_few ops n)
  where
    go : (b : Bool) → length (findings_below ops n) ≤ n → length (findings_below ops n ++ cond b (finding ops n ∷ []) []) ≤ suc n
    go true more = omega (arith, length_push (findings_below ops n) (finding ops n))
    go false more = omega (arith, ap length (append-nil (findings_below ops n)))
