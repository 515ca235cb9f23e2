-- The checks of operations' values, from the lowest places that fail them. Assumes nothing.
use Rattle.std.proofs.Common.{◌≡◌, ℕ, zero, suc, ◌<◌, Bool, true, false, not, ◌&&◌, ltb, ◌⊎◌, List, [], ◌∷◌, ◌++◌, length, Some, None, sym, refl, ap, ◌∙◌, inl, inr, arith}
use Rattle.std.proofs.lemmas.Bool.{cases_eq, cases_order, cond-true, cond-false, and_parts, and_from, both_ways, eq-eqb, not-false}
use Rattle.operations.specs.Checks.{first_failed, each_below}
use Rattle.operations.specs.Refusals.{refusal}
use Rattle.operations.specs.declared.refusal.Layer.{Layer}
use Rattle.operations.proofs.Checks.{passed_then, failed_then}
use Rattle.orders.specs.Claims.{Judgeable}
use Rattle.orders.specs.Orders.{Operation, at, alike, before, write_of, among, Timed, Distinct, Sourced, Unforeseen}
use Rattle.orders.proofs.Counts.{is_some, some_is}
use Rattle.orders.proofs.Operations.{alike_join, below_among, write_of_le}
use Rattle.bays.specs.Faults.{written_twice, unwritten, foreseen, faulty, fault_checks, value_checks, Lowest}
use Rattle.bays.proofs.Faulty.{part_true}

module _ {E : Type 0} (test : ℕ → Bool) (told : ℕ → E) where
  -- one check a place: they all pass,
  pub places_pass : (n : ℕ) → ((p : ℕ) → p < n → test p ≡ false) → first_failed (each_below n (λ p. (not (test p), told p) ∷ [])) ≡ None
  places_pass zero h = refl
  places_pass (suc n) h =
      passed_then (each_below n (λ p. (not (test p), told p) ∷ [])) ((not (test n), told n) ∷ []) (places_pass n (λ p l. h p (omega arith)))
      ∙ cond-true (not (test n)) None (Some (told n)) (ap not (h n (omega arith)))

  -- or one fails first
  pub places_fail : (n p : ℕ) → p < n → test p ≡ true → ((q : ℕ) → q < p → test q ≡ false) → first_failed (each_below n (λ p. (not (test p), told p) ∷ [])) ≡ Some (told p)
  places_fail zero p h e l = absurd (omega arith)
  places_fail (suc n) p h e l = go (cases_eq p n) (λ lt. places_fail n p lt e l)
    where
      go : ((p ≡ n) ⊎ (p ≡ n → ⊥)) → (p < n → first_failed (each_below n (λ p. (not (test p), told p) ∷ [])) ≡ Some (told p)) → first_failed (each_below (suc n) (λ p. (not (test p), told p) ∷ [])) ≡ Some (told p)
      go (inl s) more =
          passed_then (each_below n (λ p. (not (test p), told p) ∷ [])) ((not (test n), told n) ∷ []) (places_pass n (λ q k. l q (omega arith)))
          ∙ cond-false (not (test n)) None (Some (told n)) (ap (λ q. not (test q)) (sym s) ∙ ap not e) ∙ ap (λ q. Some (told q)) (sym s)
      go (inr d) more = failed_then (each_below n (λ p. (not (test p), told p) ∷ [])) ((not (test n), told n) ∷ []) (told p) (more (omega arith))

module _ (ops : List Operation) (held : Operation → Bool) (by : Layer) where
  -- the checks of one fault pass, or fail at the lowest place that has it
  none_fails : (number : ℕ) (fault : List Operation → ℕ → Bool) → Lowest (length ops) (faulty held fault ops) None → first_failed (fault_checks held fault number by ops) ≡ None
  none_fails number fault l = places_pass (faulty held fault ops) (λ p. refusal number p by) (length ops) l

  one_fails : (number : ℕ) (fault : List Operation → ℕ → Bool) (p : ℕ) → Lowest (length ops) (faulty held fault ops) (Some p) → first_failed (fault_checks held fault number by ops) ≡ Some (refusal number p by)
  one_fails number fault p l = places_fail (faulty held fault ops) (λ q. refusal number q by) (length ops) p l.0 l.1 l.2

  module _ (once : Lowest (length ops) (faulty held written_twice ops) None) where
    past_13 : first_failed (value_checks ops held by) ≡ first_failed (fault_checks held unwritten 14 by ops ++ fault_checks held foreseen 15 by ops)
    past_13 = passed_then (fault_checks held written_twice 13 by ops) (fault_checks held unwritten 14 by ops ++ fault_checks held foreseen 15 by ops) (none_fails 13 written_twice once)

    module _ (sourced : Lowest (length ops) (faulty held unwritten ops) None) where
      past_14 : first_failed (value_checks ops held by) ≡ first_failed (fault_checks held foreseen 15 by ops)
      past_14 = past_13 ∙ passed_then (fault_checks held unwritten 14 by ops) (fault_checks held foreseen 15 by ops) (none_fails 14 unwritten sourced)

      -- no fault,
      pub faultless : Lowest (length ops) (faulty held foreseen ops) None → first_failed (value_checks ops held by) ≡ None
      faultless l = past_14 ∙ none_fails 15 foreseen l

      -- or the lowest place with a fault, where none has an earlier one
      pub fails_15 : (p : ℕ) → Lowest (length ops) (faulty held foreseen ops) (Some p) → first_failed (value_checks ops held by) ≡ Some (refusal 15 p by)
      fails_15 p l = past_14 ∙ one_fails 15 foreseen p l

    pub fails_14 : (p : ℕ) → Lowest (length ops) (faulty held unwritten ops) (Some p) → first_failed (value_checks ops held by) ≡ Some (refusal 14 p by)
    fails_14 p l = past_13 ∙ failed_then (fault_checks held unwritten 14 by ops) (fault_checks held foreseen 15 by ops) (refusal 14 p by) (one_fails 14 unwritten p l)

  pub fails_13 : (p : ℕ) → Lowest (length ops) (faulty held written_twice ops) (Some p) → first_failed (value_checks ops held by) ≡ Some (refusal 13 p by)
  fails_13 p l = failed_then (fault_checks held written_twice 13 by ops) (fault_checks held unwritten 14 by ops ++ fault_checks held foreseen 15 by ops) (refusal 13 p by) (one_fails 13 written_twice p l)

pub alike_self : (o : Operation) → alike o o ≡ true
alike_self o = and_from _ _ (eq-eqb o.bay o.bay refl) (and_from _ _ (eq-eqb o.value.0 o.value.0 refl) (eq-eqb o.value.1 o.value.1 refl))

-- what the absence of faults leaves of the held operations
module _ (ops : List Operation) (held : Operation → Bool) where
  module _ (once : Lowest (length ops) (faulty held written_twice ops) None) where
    pub distinct : Distinct ops held
    distinct u v hu hv wu wv e = go (cases_order u v)
      where
        twice : (p q : ℕ) → among ops held p ≡ true → (at ops p).write ≡ true → (at ops q).write ≡ true → alike (at ops q) (at ops p) ≡ true → q < p → ⊥
        twice p q hp wp wq s lt =
            both_ways _ (once p (below_among ops held p hp))
            (and_from _ _ (and_parts (ltb p (length ops)) (held (at ops p)) hp).1 (and_from _ _ wp (is_some p (λ r. (at ops r).write && alike (at ops r) (at ops p)) q lt (and_from _ _ wq s))))

        go : ((u ≡ v) ⊎ ((u < v) ⊎ (v < u))) → u ≡ v
        go (inl s) = s
        go (inr (inl lt)) = absurd (twice v u hv wv wu e lt)
        go (inr (inr gt)) = absurd (twice u v hu wu wv (alike_join (at ops v) (at ops u) (at ops v) (alike_self (at ops v)) e) gt)

  module _ (r : ℕ) (h : among ops held r ≡ true) (e : (at ops r).write ≡ false) where
    reads_here : (held (at ops r) && not (at ops r).write) ≡ true
    reads_here = and_from _ _ (and_parts (ltb r (length ops)) (held (at ops r)) h).1 (ap not e)

    source : faulty held unwritten ops r ≡ false → write_of ops (at ops r) < length ops
    source f =
        let x = some_is (length ops) (λ q. (at ops q).write && alike (at ops q) (at ops r)) (not-false _ (sym (part_true (held (at ops r)) (not (at ops r).write) _ reads_here) ∙ f)) in
        let y = and_parts (at ops x.0).write (alike (at ops x.0) (at ops r)) x.2 in
        omega (arith, write_of_le ops (at ops r) x.0 x.1 y.0 y.1, x.1)

    not_before : faulty held foreseen ops r ≡ false → before (at ops r) (at ops (write_of ops (at ops r))) ≡ false
    not_before f = sym (part_true (held (at ops r)) (not (at ops r).write) _ reads_here) ∙ f

  pub sourced : Lowest (length ops) (faulty held unwritten ops) None → Sourced ops held
  sourced l r h e = source r h e (l r (below_among ops held r h))

  pub unforeseen : Lowest (length ops) (faulty held foreseen ops) None → Unforeseen ops held
  unforeseen l r h e = not_before r h e (l r (below_among ops held r h))

  pub judgeable : Timed ops → Lowest (length ops) (faulty held written_twice ops) None → Lowest (length ops) (faulty held unwritten ops) None → Lowest (length ops) (faulty held foreseen ops) None → Judgeable ops held
  judgeable timed once written seen = record { timed = timed; distinct = distinct once; sourced = sourced written; unforeseen = unforeseen seen }
