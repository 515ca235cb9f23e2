-- A list that is filled one element at a time. Assumes nothing.
use Rattle.std.proofs.Common.{◌≡◌, ℕ, zero, suc, ◌+◌, ◌<◌, ◌≤◌, List, [], ◌∷◌, ◌++◌, length, get_or, take, drop, set, sym, refl, ap, ◌∙◌, ap₂, le_of_suc-le-suc, add-one, arith, length-append, length-drop, length-take}
use Rattle.std.proofs.lemmas.List.{take_all}

fill_at : (a b : List ℕ) (i : ℕ) → i < length a → length a ≤ length b → set (take i a ++ drop i b) i (get_or a i 0) ≡ take (suc i) a ++ drop (suc i) b
fill_at [] b i h l = absurd (omega arith)
fill_at (x ∷ a) [] i h l = absurd (omega arith)
fill_at (x ∷ a) (y ∷ b) zero h l = refl
fill_at (x ∷ a) (y ∷ b) (suc i) h l = ap (λ (r : List ℕ). x ∷ r) (fill_at a b i (le_of_suc-le-suc h) (le_of_suc-le-suc l))

-- the first i entries of b are those of a
module _ (a b now : List ℕ) (i : ℕ) (short : length a ≤ length b) (so_far : now ≡ take i a ++ drop i b) where
  pub fill_more : (next : List ℕ) (len : ℕ) → i < length a → len ≡ i → next ≡ set now len (get_or a i 0) → next ≡ take (i + 1) a ++ drop (i + 1) b
  fill_more next len h e n = n ∙ ap₂ (λ (l : List ℕ) (k : ℕ). set l k (get_or a i 0)) so_far e ∙ fill_at a b i h short ∙ ap (λ k. take k a ++ drop k b) (sym (add-one i))

  pub fill_room : i < length a → i < length now
  fill_room h = omega (arith, simp (length-append, length-take, length-drop) at (ap length so_far))

  pub fill_all : i ≡ length a → now ≡ a ++ drop (length a) b
  fill_all e = so_far ∙ ap₂ (λ (l : List ℕ) (k : ℕ). l ++ drop k b) (take_all i a (omega arith)) e
