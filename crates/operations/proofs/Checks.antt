-- The first failed check, and what holds of each element. Assumes nothing.
use Rattle.std.proofs.Common.{◌≡◌, ℕ, zero, suc, ◌+◌, ◌<◌, Bool, true, false, List, [], ◌∷◌, ◌++◌, map, length, get_or, Some, None, refl, ap, ◌∙◌, subst, ⊎_elim, add-one, arith}
use Rattle.std.proofs.lemmas.Bool.{cases_lt}
use Rattle.operations.specs.Checks.{first_failed, each_below}

module _ {E : Type 0} where
  -- checks that pass leave it to those behind them
  pub passed_then : (cs ds : List (Bool × E)) → first_failed cs ≡ None → first_failed (cs ++ ds) ≡ first_failed ds
  passed_then [] ds h = refl
  passed_then ((true, e) ∷ cs) ds h = passed_then cs ds h
  passed_then ((false, e) ∷ cs) ds h = let z : ◌≡◌ {A = ℕ} 0 1 = cc in absurd (omega arith)

  -- a failed check comes before those behind it
  pub failed_then : (cs ds : List (Bool × E)) (e : E) → first_failed cs ≡ Some e → first_failed (cs ++ ds) ≡ Some e
  failed_then [] ds e h = let z : ◌≡◌ {A = ℕ} 0 1 = cc in absurd (omega arith)
  failed_then ((true, d) ∷ cs) ds e h = failed_then cs ds e h
  failed_then ((false, d) ∷ cs) ds e h = h

module _ {E : Type 0} (checks : ℕ → List (Bool × E)) where
  -- those of one more pass
  pub each_passed : (i : ℕ) → first_failed (each_below i checks) ≡ None → first_failed (checks i) ≡ None → first_failed (each_below (i + 1) checks) ≡ None
  each_passed i h k = ap (λ n. first_failed (each_below n checks)) (add-one i) ∙ passed_then (each_below i checks) (checks i) h ∙ k

  -- the first of all that fail are those of the first number that has one
  pub each_failed : (n i : ℕ) (e : E) → i < n → first_failed (each_below i checks) ≡ None → first_failed (checks i) ≡ Some e → first_failed (each_below n checks) ≡ Some e
  each_failed zero i e lt h k = absurd (omega arith)
  each_failed (suc n) i e lt h k = ⊎_elim
      (λ below. failed_then (each_below n checks) (checks n) e (each_failed n i e below h k))
      (λ past. let same : i ≡ n = omega arith in subst (λ m. first_failed (each_below m checks ++ checks m) ≡ Some e) same (passed_then (each_below i checks) (checks i) h ∙ k))
      (cases_lt i n)

module _ {E F : Type 0} (f : E → F) where
  -- the same checks with other refusals
  pub passed_as : (cs : List (Bool × E)) → first_failed cs ≡ None → first_failed (map (λ c. (c.0, f c.1)) cs) ≡ None
  passed_as [] h = refl
  passed_as ((true, e) ∷ cs) h = passed_as cs h
  passed_as ((false, e) ∷ cs) h = let z : ◌≡◌ {A = ℕ} 0 1 = cc in absurd (omega arith)

  pub failed_as : (cs : List (Bool × E)) (e : E) → first_failed cs ≡ Some e → first_failed (map (λ c. (c.0, f c.1)) cs) ≡ Some (f e)
  failed_as [] e h = let z : ◌≡◌ {A = ℕ} 0 1 = cc in absurd (omega arith)
  failed_as ((true, d) ∷ cs) e h = failed_as cs e h
  failed_as ((false, d) ∷ cs) e h = let same : d ≡ e = cc in ap (λ x. Some (f x)) same

-- what holds of each element and its place, with one element more
pub each_push : {X : Type 0} (P : ℕ → X → Type 0) (xs : List X) (x : X) → ((k : ℕ) (d : X) → k < length xs → P k (get_or xs k d)) → P (length xs) x → (k : ℕ) (d : X) → k < length (xs ++ (x ∷ [])) → P k (get_or (xs ++ (x ∷ [])) k d)
each_push P [] x h e zero d lt = e
each_push P [] x h e (suc k) d lt = absurd (omega arith)
each_push P (y ∷ xs) x h e zero d lt = h 0 d (omega arith)
each_push P (y ∷ xs) x h e (suc k) d lt = each_push (λ n. P (suc n)) xs x (λ n d lt. h (suc n) d (omega arith)) e k d (omega arith)

-- two checks that pass leave it to those behind them
pub two_passed : {E : Type 0} (a b : Bool) (d e : E) (rest : List (Bool × E)) → a ≡ true → b ≡ true → first_failed ((a, d) ∷ ((b, e) ∷ rest)) ≡ first_failed rest
two_passed true true d e rest h k = refl
two_passed true false d e rest h k = let z : ◌≡◌ {A = ℕ} 0 1 = cc in absurd (omega arith)
two_passed false b d e rest h k = let z : ◌≡◌ {A = ℕ} 0 1 = cc in absurd (omega arith)
