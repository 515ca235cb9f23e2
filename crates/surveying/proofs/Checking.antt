-- Checks of numbers one after the other: which pass, and which fails first. Assumes nothing.
use Rattle.std.proofs.Common.{◌≡◌, ℕ, zero, suc, ◌<◌, Bool, true, false, ◌⊎◌, List, [], ◌∷◌, ◌++◌, Some, None, Option, sym, refl, ap, ◌∙◌, inl, inr, arith}
use Rattle.std.proofs.lemmas.Bool.{cases_eq, cases_Bool, cond-true, cond-false}
use Rattle.operations.specs.Checks.{first_failed, each_below}
use Rattle.operations.proofs.Checks.{passed_then, failed_then}

-- something is told, or nothing
pub some_or_none : {E : Type 0} (o : Option E) → ((e : E) × (o ≡ Some e)) ⊎ (o ≡ None)
some_or_none None = inr refl
some_or_none (Some e) = inl (e, refl)

pub none_some : {E : Type 0} (o : Option E) (e : E) → o ≡ None → o ≡ Some e → ⊥
none_some o e h k = let z : ◌≡◌ {A = ℕ} 0 1 = cc in omega arith

-- where checks pass, those in front and those behind do
pub passed_parts : {E : Type 0} (cs ds : List (Bool × E)) → first_failed (cs ++ ds) ≡ None → (first_failed cs ≡ None) × (first_failed ds ≡ None)
passed_parts [] ds h = (refl, h)
passed_parts ((true, e) ∷ cs) ds h = passed_parts cs ds h
passed_parts ((false, e) ∷ cs) ds h = let z : ◌≡◌ {A = ℕ} 0 1 = cc in absurd (omega arith)

module _ {E : Type 0} (check : ℕ → Bool × E) where
  -- one check for each number below n
  abbrev pub one_each : ℕ → List (Bool × E)
  one_each n = each_below n (λ p. check p ∷ [])

  -- the one check of a number
  one_passes : (p : ℕ) → (check p).0 ≡ true → first_failed (check p ∷ []) ≡ None
  one_passes p h = cond-true (check p).0 None (Some (check p).1) h

  pub all_pass : (n : ℕ) → ((p : ℕ) → p < n → (check p).0 ≡ true) → first_failed (one_each n) ≡ None
  all_pass zero h = refl
  all_pass (suc n) h = passed_then (one_each n) (check n ∷ []) (all_pass n (λ p l. h p (omega arith))) ∙ one_passes n (h n (omega arith))

  -- the first that fails, after those that pass
  pub fails_at : (n p : ℕ) → p < n → ((q : ℕ) → q < p → (check q).0 ≡ true) → (check p).0 ≡ false → first_failed (one_each n) ≡ Some (check p).1
  fails_at zero p l h e = absurd (omega arith)
  fails_at (suc n) p l h e = go (cases_eq p n) (λ lt. fails_at n p lt h e)
    where
      go : ((p ≡ n) ⊎ (p ≡ n → ⊥)) → (p < n → first_failed (one_each n) ≡ Some (check p).1) → first_failed (one_each (suc n)) ≡ Some (check p).1
      go (inl s) more =
          passed_then (one_each n) (check n ∷ []) (all_pass n (λ q k. h q (omega arith)))
          ∙ cond-false (check n).0 None (Some (check n).1) (ap (λ q. (check q).0) (sym s) ∙ e) ∙ ap (λ q. Some (check q).1) (sym s)
      go (inr d) more = failed_then (one_each n) (check n ∷ []) (check p).1 (more (omega arith))

  -- what fails is the check of some number
  pub failed_one : (n : ℕ) (e : E) → first_failed (one_each n) ≡ Some e → (p : ℕ) × (e ≡ (check p).1)
  failed_one zero e h = absurd (none_some _ e refl h)
  failed_one (suc n) e h = go (some_or_none (first_failed (one_each n))) (cases_Bool (check n).0) (failed_one n e)
    where
      go : ((d : E) × (first_failed (one_each n) ≡ Some d)) ⊎ (first_failed (one_each n) ≡ None) → (((check n).0 ≡ true) ⊎ ((check n).0 ≡ false)) → (first_failed (one_each n) ≡ Some e → (p : ℕ) × (e ≡ (check p).1)) → (p : ℕ) × (e ≡ (check p).1)
      go (inl f) c more = more (f.1 ∙ sym (failed_then (one_each n) (check n ∷ []) f.0 f.1) ∙ h)
      go (inr f) (inl t) more = absurd (none_some _ e (passed_then (one_each n) (check n ∷ []) f ∙ one_passes n t) h)
      go (inr f) (inr t) more =
          let k = passed_then (one_each n) (check n ∷ []) f in
          let l = cond-false (check n).0 None (Some (check n).1) t in
          let same : e ≡ (check n).1 = cc in
          (n, same)
