-- What the checks of the values spare: no value is written twice, and no read is without a write or before it. Assumes nothing.
use Rattle.std.proofs.Common.{◌≡◌, ℕ, zero, suc, ◌<◌, Bool, true, false, not, ◌&&◌, ◌⊎◌, List, length, Some, None, Option, ap, ◌∙◌, ap₂, inl, inr, arith}
use Rattle.std.proofs.lemmas.Bool.{cases_eq, cases_Bool, and_parts, and_from}
use Rattle.bays.specs.Faults.{written_twice, unwritten, foreseen, faulty, value_checks, Lowest}
use Rattle.bays.proofs.Checked.{fails_13, fails_14, fails_15, judgeable}
use Rattle.operations.specs.Checks.{first_failed}
use Rattle.operations.specs.Refusals.{refusal}
use Rattle.operations.specs.declared.refusal.Layer.{Layer}
use Rattle.orders.specs.Claims.{Judgeable}
use Rattle.orders.specs.Orders.{Operation, at, alike, before, write_of, whole, Timed, Distinct, Sourced, Unforeseen}
use Rattle.orders.specs.Places.{some}
use Rattle.orders.proofs.Counts.{is_some, some_is}
use Rattle.orders.proofs.Operations.{whole_among, write_of_is}
use Rattle.surveying.proofs.Checking.{none_some}

-- no operation has the fault
abbrev pub Without : (List Operation → ℕ → Bool) → List Operation → Type 0
Without fault ops = Lowest (length ops) (faulty whole fault ops) None

module _ (ops : List Operation) where
  pub once : Distinct ops whole → Without written_twice ops
  once apart p h = go (cases_Bool (written_twice ops p))
    where
      go : ((written_twice ops p ≡ true) ⊎ (written_twice ops p ≡ false)) → written_twice ops p ≡ false
      go (inr f) = f
      go (inl t) =
          let x = and_parts (at ops p).write (some p (λ q. (at ops q).write && alike (at ops q) (at ops p))) t in
          let y = some_is p (λ q. (at ops q).write && alike (at ops q) (at ops p)) x.1 in
          let z = and_parts (at ops y.0).write (alike (at ops y.0) (at ops p)) y.2 in
          let lt : y.0 < length ops = omega (arith, y.1, h) in
          let same : y.0 ≡ p = apart y.0 p (whole_among ops y.0 lt) (whole_among ops p h) z.0 x.0 z.1 in
          absurd (omega (arith, y.1, same))

  pub written : Sourced ops whole → Without unwritten ops
  written has p h = go (cases_Bool (at ops p).write)
    where
      go : (((at ops p).write ≡ true) ⊎ ((at ops p).write ≡ false)) → unwritten ops p ≡ false
      go (inl t) = ap (λ w. not w && not (some (length ops) (λ q. (at ops q).write && alike (at ops q) (at ops p)))) t
      go (inr f) =
          let lt = has p (whole_among ops p h) f in
          let w = write_of_is ops (at ops p) lt in
          ap₂ (λ (w s : Bool). not w && not s) f (is_some (length ops) (λ q. (at ops q).write && alike (at ops q) (at ops p)) (write_of ops (at ops p)) lt (and_from _ _ w.0 w.1))

  pub unseen : Unforeseen ops whole → Without foreseen ops
  unseen late p h = go (cases_Bool (at ops p).write)
    where
      go : (((at ops p).write ≡ true) ⊎ ((at ops p).write ≡ false)) → foreseen ops p ≡ false
      go (inl t) = ap (λ w. not w && before (at ops p) (at ops (write_of ops (at ops p)))) t
      go (inr f) = ap₂ (λ (w b : Bool). not w && b) f (late p (whole_among ops p h) f)

-- a test has a lowest place, or passes nowhere
pub lowest : (n : ℕ) (test : ℕ → Bool) → (place : Option ℕ) × Lowest n test place
lowest zero test = (None, λ q h. absurd (omega arith))
lowest (suc n) test = go (lowest n test) (cases_Bool (test n))
  where
    go : (place : Option ℕ) × Lowest n test place → ((test n ≡ true) ⊎ (test n ≡ false)) → (place : Option ℕ) × Lowest (suc n) test place
    go (Some p, l) t = (Some p, (omega (arith, l.0), l.1, l.2))
    go (None, l) (inl t) = (Some n, (omega arith, t, l))
    go (None, l) (inr f) = (None, λ q h. last q h (cases_eq q n))
      where
        last : (q : ℕ) → q < suc n → ((q ≡ n) ⊎ (q ≡ n → ⊥)) → test q ≡ false
        last q h (inl e) = ap test e ∙ f
        last q h (inr d) = l q (omega arith)

-- operations whose values are spared can be judged
module _ (ops : List Operation) (by : Layer) (spared : first_failed (value_checks ops whole by) ≡ None) where
  spared_once : Without written_twice ops
  spared_once = go (lowest (length ops) (faulty whole written_twice ops))
    where
      go : (place : Option ℕ) × Lowest (length ops) (faulty whole written_twice ops) place → Without written_twice ops
      go (None, l) = l
      go (Some p, l) = absurd (none_some _ (refusal 13 p by) spared (fails_13 ops whole by p l))

  spared_written : Without unwritten ops
  spared_written = go (lowest (length ops) (faulty whole unwritten ops))
    where
      go : (place : Option ℕ) × Lowest (length ops) (faulty whole unwritten ops) place → Without unwritten ops
      go (None, l) = l
      go (Some p, l) = absurd (none_some _ (refusal 14 p by) spared (fails_14 ops whole by spared_once p l))

  spared_unforeseen : Without foreseen ops
  spared_unforeseen = go (lowest (length ops) (faulty whole foreseen ops))
    where
      go : (place : Option ℕ) × Lowest (length ops) (faulty whole foreseen ops) place → Without foreseen ops
      go (None, l) = l
      go (Some p, l) = absurd (none_some _ (refusal 15 p by) spared (fails_15 ops whole by spared_once spared_written p l))

  pub spared_judgeable : Timed ops → Judgeable ops whole
  spared_judgeable timed = judgeable ops whole timed spared_once spared_written spared_unforeseen
