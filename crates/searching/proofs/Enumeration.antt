-- The run-ups in their order, by depth first, over any test of what may stand next, and what is left of them at each state of the search. A run-up is written last member first.
use Rattle.std.proofs.Common.{◌≡◌, ℕ, zero, suc, ◌-◌, ◌<◌, Bool, true, false, cond, eqb, List, [], ◌∷◌, ◌++◌, length, refl, ap, ◌∙◌, append_assoc, arith}
use mathlib.Core.Option.{Option, none, some}
use Rattle.std.proofs.lemmas.Bool.{eq-eqb, ne_eqb}

module _ (n : ℕ) (ok : List ℕ → ℕ → Bool) where
  -- the run-ups that go on from p by one of the c writes from u on, each followed by those that deep gives
  unfoldable pub each : (List ℕ → List (List ℕ)) → List ℕ → ℕ → ℕ → List (List ℕ)
  each deep p zero u = []
  each deep p (suc c) u =
      let here = (u ∷ p) ∷ deep (u ∷ p) in
      cond (ok p u) here [] ++ each deep p c (suc u)

  -- the run-ups that go on from p by at most d writes
  unfoldable pub below : ℕ → List ℕ → List (List ℕ)
  unfolding each
  below zero p = []
  below (suc d) p = each (below d) p n 0

-- how many up to the first with all n writes
unfoldable pub trials : ℕ → List (List ℕ) → ℕ
trials n [] = 0
trials n (p ∷ ps) = let more = trials n ps in suc (cond (eqb (length p) n) 0 more)

-- that first
unfoldable pub first : ℕ → List (List ℕ) → Option (List ℕ)
first n [] = none
first n (p ∷ ps) = let more = first n ps in cond (eqb (length p) n) (some p) more

module _ (n : ℕ) (ok : List ℕ → ℕ → Bool) where
  -- what is left at p from candidate u on
  level : List ℕ → ℕ → List (List ℕ)
  level p u = each n ok (below n ok (n - suc (length p))) p (n - u) u

  -- and then at what is before p's last member
  pub rest : List ℕ → ℕ → List (List ℕ)
  rest [] u = level [] u
  rest (w ∷ q) u = level (w ∷ q) u ++ rest q (suc w)

  pub each_skip : (deep : List ℕ → List (List ℕ)) (p : List ℕ) (c u : ℕ) → ok p u ≡ false → each n ok deep p (suc c) u ≡ each n ok deep p c (suc u)
  unfolding each
  each_skip deep p c u e = rw e

  pub each_take : (deep : List ℕ → List (List ℕ)) (p : List ℕ) (c u : ℕ) → ok p u ≡ true → each n ok deep p (suc c) u ≡ ((u ∷ p) ∷ deep (u ∷ p)) ++ each n ok deep p c (suc u)
  unfolding each
  each_take deep p c u e = rw e

  level_skip : (p : List ℕ) (u : ℕ) → u < n → ok p u ≡ false → level p u ≡ level p (suc u)
  unfolding level
  level_skip p u h e =
      let s : n - u ≡ suc (n - suc u) = omega arith in
      rw s (each_skip _ p (n - suc u) u e)

  level_take : (p : List ℕ) (u : ℕ) → u < n → ok p u ≡ true → level p u ≡ ((u ∷ p) ∷ below n ok (n - suc (length p)) (u ∷ p)) ++ level p (suc u)
  unfolding level
  level_take p u h e =
      let s : n - u ≡ suc (n - suc u) = omega arith in
      rw s (each_take _ p (n - suc u) u e)

  level_none : (p : List ℕ) → level p n ≡ []
  unfolding level each
  level_none p =
      let s : n - n ≡ 0 = omega arith in
      rw s

  level_down : (p : List ℕ) → length p < n → below n ok (n - length p) p ≡ level p 0
  unfolding level below
  level_down p h =
      let s : n - length p ≡ suc (n - suc (length p)) = omega arith in
      let z : n - 0 ≡ n = omega arith in
      rw (s, z)

  pub rest_skip : (p : List ℕ) (u : ℕ) → u < n → ok p u ≡ false → rest p u ≡ rest p (suc u)
  unfolding rest
  rest_skip [] u h e = level_skip [] u h e
  rest_skip (w ∷ q) u h e = ap (λ l. l ++ rest q (suc w)) (level_skip (w ∷ q) u h e)

  pub rest_take : (p : List ℕ) (u : ℕ) → u < n → ok p u ≡ true → (more : List (List ℕ)) × (rest p u ≡ (u ∷ p) ∷ more) × (suc (length p) < n → more ≡ rest (u ∷ p) 0)
  unfolding rest
  rest_take [] u h e = (
    below n ok (n - 1) (u ∷ []) ++ level [] (suc u),
    level_take [] u h e,
    λ lt. ap (λ l. l ++ level [] (suc u)) (level_down (u ∷ []) lt),
  )
  rest_take (w ∷ q) u h e = (
    (below n ok (n - suc (suc (length q))) (u ∷ w ∷ q) ++ level (w ∷ q) (suc u)) ++ rest q (suc w),
    ap (λ l. l ++ rest q (suc w)) (level_take (w ∷ q) u h e),
    λ lt. ap (λ l. (l ++ level (w ∷ q) (suc u)) ++ rest q (suc w)) (level_down (u ∷ w ∷ q) lt) ∙ append_assoc (level (u ∷ w ∷ q) 0) (level (w ∷ q) (suc u)) (rest q (suc w)),
  )

  pub rest_back : (w : ℕ) (q : List ℕ) → rest (w ∷ q) n ≡ rest q (suc w)
  unfolding rest
  rest_back w q = ap (λ l. l ++ rest q (suc w)) (level_none (w ∷ q))

  pub rest_end : rest [] n ≡ []
  unfolding rest
  rest_end = level_none []

  rest_full : 0 < n → below n ok n [] ≡ rest [] 0
  unfolding rest
  rest_full h = let z : n - 0 ≡ n = omega arith in rw z at (level_down [] h)

-- all of them are left at the start
pub rest_start : (n : ℕ) (ok : List ℕ → ℕ → Bool) → below n ok n [] ≡ rest n ok [] 0
unfolding rest level below each
rest_start zero ok = refl
rest_start (suc n) ok = rest_full (suc n) ok (omega arith)

pub trials_short : (n : ℕ) (p : List ℕ) (ps : List (List ℕ)) → (length p ≡ n → ⊥) → trials n (p ∷ ps) ≡ suc (trials n ps)
unfolding trials
trials_short n p ps h = rw (ne_eqb (length p) n h)

pub trials_full : (n : ℕ) (p : List ℕ) (ps : List (List ℕ)) → length p ≡ n → trials n (p ∷ ps) ≡ 1
unfolding trials
trials_full n p ps h = rw (eq-eqb (length p) n h)

pub first_short : (n : ℕ) (p : List ℕ) (ps : List (List ℕ)) → (length p ≡ n → ⊥) → first n (p ∷ ps) ≡ first n ps
unfolding first
first_short n p ps h = rw (ne_eqb (length p) n h)

pub first_full : (n : ℕ) (p : List ℕ) (ps : List (List ℕ)) → length p ≡ n → first n (p ∷ ps) ≡ some p
unfolding first
first_full n p ps h = rw (eq-eqb (length p) n h)

pub trials_some : (n : ℕ) (p : List ℕ) (ps : List (List ℕ)) → 0 < trials n (p ∷ ps)
unfolding trials
trials_some n p ps = omega arith

pub trials_none : (n : ℕ) → trials n [] ≡ 0
unfolding trials
trials_none n = refl

pub first_none : (n : ℕ) → first n [] ≡ none
unfolding first
first_none n = refl
