-- What a list has at a place, and how much of it passes a test up to there. Assumes nothing.
use Rattle.std.proofs.Common.{◌≡◌, ℕ, zero, suc, ◌+◌, ◌<◌, ◌≤◌, Bool, true, false, cond, List, [], ◌∷◌, ◌++◌, length, get_or, take, drop, Some, filter, Option, sym, refl, ap, ◌∙◌, append-nil, add-one, arith}
use Rattle.std.specs.List.{slice_get}
use Rattle.std.proofs.lemmas.List.Elements.{filter_more}
use Rattle.std.proofs.lemmas.List.{length_push, drop_more}

module _ {X : Type 0} where
  pub nth_within : (xs : List X) (i : ℕ) (x : X) → slice_get xs i ≡ Some x → i < length xs
  nth_within [] i x e = let z : ◌≡◌ {A = ℕ} 0 1 = cc in absurd (omega arith)
  nth_within (y ∷ xs) zero x e = omega arith
  nth_within (y ∷ xs) (suc i) x e = let h = nth_within xs i x e in omega arith

  pub nth_is : (xs : List X) (i : ℕ) (x d : X) → slice_get xs i ≡ Some x → get_or xs i d ≡ x
  nth_is [] i x d e = let z : ◌≡◌ {A = ℕ} 0 1 = cc in absurd (omega arith)
  nth_is (y ∷ xs) zero x d e = cc
  nth_is (y ∷ xs) (suc i) x d e = nth_is xs i x d e

  -- one element more, where it passes a test and where it does not
  pub kept_yes : (p : X → Bool) (xs : List X) (i : ℕ) (x : X) → slice_get xs i ≡ Some x → p x ≡ true → filter p (take (i + 1) xs) ≡ filter p (take i xs) ++ (x ∷ [])
  kept_yes p xs i x e t =
      let at : get_or xs i x ≡ x = nth_is xs i x x e in
      let more = filter_more p xs i x (nth_within xs i x e) in
      more ∙ ap (λ y. filter p (take i xs) ++ cond (p y) (y ∷ []) []) at ∙ ap (λ b. filter p (take i xs) ++ cond b (x ∷ []) []) t

  pub kept_no : (p : X → Bool) (xs : List X) (i : ℕ) (x : X) → slice_get xs i ≡ Some x → p x ≡ false → filter p (take (i + 1) xs) ≡ filter p (take i xs)
  kept_no p xs i x e t =
      let at : get_or xs i x ≡ x = nth_is xs i x x e in
      let more = filter_more p xs i x (nth_within xs i x e) in
      more ∙ ap (λ y. filter p (take i xs) ++ cond (p y) (y ∷ []) []) at ∙ ap (λ b. filter p (take i xs) ++ cond b (x ∷ []) []) t ∙ append-nil (filter p (take i xs))

  pub count_yes : (p : X → Bool) (xs : List X) (i : ℕ) (x : X) → slice_get xs i ≡ Some x → p x ≡ true → length (filter p (take (i + 1) xs)) ≡ length (filter p (take i xs)) + 1
  count_yes p xs i x e t = ap length (kept_yes p xs i x e t) ∙ length_push (filter p (take i xs)) x

  step : (b : Bool) (y : X) (ys zs : List X) (o : Option X) → slice_get ys (length zs) ≡ o → slice_get (cond b (y ∷ ys) ys) (length (cond b (y ∷ zs) zs)) ≡ o
  step true y ys zs o e = e
  step false y ys zs o e = e

  -- an element that passes stands among those that pass where the passing ones before it end
  pub nth_kept : (p : X → Bool) (xs : List X) (i : ℕ) (x : X) → slice_get xs i ≡ Some x → p x ≡ true → slice_get (filter p xs) (length (filter p (take i xs))) ≡ Some x
  nth_kept p [] i x e t = let z : ◌≡◌ {A = ℕ} 0 1 = cc in absurd (omega arith)
  nth_kept p (y ∷ xs) zero x e t = let h : p y ≡ true = cc in rw h e
  nth_kept p (y ∷ xs) (suc i) x e t = step (p y) y (filter p xs) (filter p (take i xs)) (Some x) (nth_kept p xs i x e t)

  -- two tests that agree on a list keep the same of it
  pub kept_same : (p q : X → Bool) (xs : List X) → ((k : ℕ) (d : X) → k < length xs → p (get_or xs k d) ≡ q (get_or xs k d)) → filter p xs ≡ filter q xs
  kept_same p q [] h = refl
  kept_same p q (x ∷ xs) h =
      let e : p x ≡ q x = h 0 x (omega arith) in
      let r = kept_same p q xs (λ k d lt. h (suc k) d (omega arith)) in
      ap (λ b. cond b (x ∷ filter p xs) (filter p xs)) e ∙ ap (λ ys. cond (q x) (x ∷ ys) ys) r

  -- a test that all pass keeps all
  pub kept_all : (p : X → Bool) (xs : List X) → ((x : X) → p x ≡ true) → filter p xs ≡ xs
  kept_all p [] h = refl
  kept_all p (x ∷ xs) h = ap (λ b. cond b (x ∷ filter p xs) (filter p xs)) (h x) ∙ ap (λ ys. x ∷ ys) (kept_all p xs h)

  -- what stands behind the first i elements
  pub drop_nth : (xs : List X) (i : ℕ) (x : X) (rest : List X) → drop i xs ≡ x ∷ rest → slice_get xs i ≡ Some x
  drop_nth [] zero x rest e = let z : ◌≡◌ {A = ℕ} 0 1 = cc in absurd (omega arith)
  drop_nth [] (suc i) x rest e = let z : ◌≡◌ {A = ℕ} 0 1 = cc in absurd (omega arith)
  drop_nth (y ∷ xs) zero x rest e = cc
  drop_nth (y ∷ xs) (suc i) x rest e = drop_nth xs i x rest e

  pub drop_rest : (xs : List X) (i : ℕ) (x : X) (rest : List X) → drop i xs ≡ x ∷ rest → rest ≡ drop (i + 1) xs
  drop_rest [] zero x rest e = let z : ◌≡◌ {A = ℕ} 0 1 = cc in absurd (omega arith)
  drop_rest [] (suc i) x rest e = let z : ◌≡◌ {A = ℕ} 0 1 = cc in absurd (omega arith)
  drop_rest (y ∷ xs) zero x rest e = cc
  drop_rest (y ∷ xs) (suc i) x rest e = drop_rest xs i x rest e ∙ ap (λ n. drop n xs) (add-one i) ∙ ap (λ n. drop n (y ∷ xs)) (sym (add-one (suc i)))

  pub nth_drop : (xs : List X) (i : ℕ) (x : X) → slice_get xs i ≡ Some x → drop i xs ≡ x ∷ drop (i + 1) xs
  nth_drop xs i x e = drop_more xs i x (nth_within xs i x e) ∙ ap (λ y. y ∷ drop (i + 1) xs) (nth_is xs i x x e)

  -- nothing stands there only past the end
  pub drop_none : (xs : List X) (i : ℕ) → drop i xs ≡ [] → length xs ≤ i
  drop_none [] i e = omega arith
  drop_none (x ∷ xs) zero e = let z : ◌≡◌ {A = ℕ} 0 1 = cc in absurd (omega arith)
  drop_none (x ∷ xs) (suc i) e = let h = drop_none xs i e in omega arith
