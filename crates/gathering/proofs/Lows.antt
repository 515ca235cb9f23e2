-- The lowest place that passes a test, one place more at a time. Assumes nothing.
use Rattle.std.proofs.Common.{◌≡◌, ℕ, zero, suc, ◌+◌, ◌<◌, ◌≤◌, Bool, true, false, is_some, Some, None, Option, sym, refl, ◌∙◌, subst, add-one, arith, below_more}
use Rattle.std.specs.Option.{option_or}
use Rattle.bays.specs.Faults.{Lowest}

module _ (test : ℕ → Bool) (n : ℕ) where
  -- the next place passes, or does not
  pub lowest_yes : (first : Option ℕ) → Lowest n test first → test n ≡ true → Lowest (n + 1) test (option_or first (Some n))
  lowest_yes (Some p) l e = (omega (arith, l.0), l.1, l.2)
  lowest_yes None l e = (omega arith, e, l)

  pub lowest_no : (first : Option ℕ) → Lowest n test first → test n ≡ false → Lowest (n + 1) test first
  lowest_no (Some p) l e = (omega (arith, l.0), l.1, l.2)
  lowest_no None l e = below_more _ n l e

  -- a place that was found is the lowest of more places too
  pub lowest_found : (first : Option ℕ) → Lowest n test first → is_some first ≡ true → (k : ℕ) → n ≤ k → Lowest k test first
  lowest_found (Some p) l e k h = (omega (arith, l.0), l.1, l.2)
  lowest_found None l e k h = let z : ◌≡◌ {A = ℕ} 0 1 = cc in absurd (omega arith)

-- tests that agree
pub lowest_as : (n : ℕ) (f g : ℕ → Bool) (first : Option ℕ) → ((p : ℕ) → p < n → f p ≡ g p) → Lowest n f first → Lowest n g first
lowest_as n f g (Some p) h l = (l.0, sym (h p l.0) ∙ l.1, λ q k. sym (h q (omega (arith, l.0))) ∙ l.2 q k)
lowest_as n f g None h l = λ q k. sym (h q k) ∙ l q k

-- some place is the lowest, or none is
pub lowest_is : (n : ℕ) (test : ℕ → Bool) → (first : Option ℕ) × Lowest n test first
lowest_is zero test = (None, λ q h. absurd (omega arith))
lowest_is (suc n) test = go (lowest_is n test) (test n) refl
  where
    go : ((first : Option ℕ) × Lowest n test first) → (t : Bool) → test n ≡ t → (first : Option ℕ) × Lowest (suc n) test first
    go x true e = (option_or x.0 (Some n), subst (λ k. Lowest k test (option_or x.0 (Some n))) (add-one n) (lowest_yes test n x.0 x.1 e))
    go x false e = (x.0, subst (λ k. Lowest k test x.0) (add-one n) (lowest_no test n x.0 x.1 e))
