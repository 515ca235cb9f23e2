-- One more operation of a pass, as a filter sees it. Assumes nothing.
use Rattle.std.proofs.Common.{◌≡◌, ℕ, suc, ◌+◌, ◌-◌, ◌≤◌, Bool, true, false, not, cond, List, ◌∷◌, length, Some, filter, refl, ap, ◌∙◌, arith}
use Rattle.std.specs.List.{slice_get}
use Rattle.std.proofs.lemmas.List.Filters.{length-filter_both}

module _ {X : Type 0} (p : X → Bool) (coming rest : List X) (x : X) (first : coming ≡ x ∷ rest) where
  seen_first : (b : Bool) → p x ≡ b → filter p coming ≡ cond b (x ∷ filter p rest) (filter p rest)
  seen_first b e = ap (filter p) first ∙ ap (λ t. cond t (x ∷ filter p rest) (filter p rest)) e

  -- where it is left out, as many as are to come are counted at least, and one fewer then
  module _ (out : p x ≡ false) (count shown : ℕ) (counted : count + length (filter p coming) ≡ length coming + shown) where
    pub still_counted : 1 ≤ count
    still_counted =
        let parts = length-filter_both p (λ y. not (p y)) (λ y. refl) rest in
        omega (arith, counted, parts, ap length first, ap length (seen_first false out))

    pub counted_on : count - 1 + length (filter p rest) ≡ length rest + shown
    counted_on =
        let h = still_counted in
        omega (arith, h, counted, ap length first, ap length (seen_first false out))

  -- where it is shown, it stands where those that passed end, and the next ones stand behind it
  module _ (kept : p x ≡ true) (shown : List X) (passed : ℕ) where
    pub shown_here : ((j : ℕ) → slice_get shown (passed + j) ≡ slice_get (filter p coming) j) → slice_get shown passed ≡ Some x
    shown_here at = let e : passed ≡ passed + 0 = omega arith in ap (slice_get shown) e ∙ at 0 ∙ ap (λ ys. slice_get ys 0) (seen_first true kept)

    pub shown_on : ((j : ℕ) → slice_get shown (passed + j) ≡ slice_get (filter p coming) j) → (j : ℕ) → slice_get shown (passed + 1 + j) ≡ slice_get (filter p rest) j
    shown_on at j = let e : passed + 1 + j ≡ passed + suc j = omega arith in ap (slice_get shown) e ∙ at (suc j) ∙ ap (λ ys. slice_get ys (suc j)) (seen_first true kept)

    pub passed_on : length shown ≡ passed + length (filter p coming) → length shown ≡ passed + 1 + length (filter p rest)
    passed_on h = omega (arith, h, ap length (seen_first true kept))
