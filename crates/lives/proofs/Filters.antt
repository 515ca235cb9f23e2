-- Tests on lists, one after the other. Assumes nothing.
use Rattle.std.proofs.Common.{◌≡◌, suc, ◌≤◌, Bool, true, false, cond, not, ◌&&◌, ◌||◌, List, [], ◌∷◌, length, filter, sym, refl, ap, ◌∙◌, arith}
use Rattle.std.proofs.lemmas.List.Elements.{filter_agree}
use Rattle.std.proofs.lemmas.List.Filters.{length-filter_both}

pub and_comm : (a b : Bool) → (a && b) ≡ (b && a)
and_comm true true = refl
and_comm true false = refl
and_comm false true = refl
and_comm false false = refl

pub not_or : (a b : Bool) → not (a || b) ≡ (not a && not b)
not_or true true = refl
not_or true false = refl
not_or false true = refl
not_or false false = refl

module _ {A : Type 0} where
  twice_at : (a b : Bool) (p : A → Bool) (x : A) (ks qs : List A) → p x ≡ a → ks ≡ filter p qs → cond (a && b) (x ∷ ks) ks ≡ filter p (cond b (x ∷ qs) qs)
  twice_at true true p x ks qs e h = let z : filter p (x ∷ qs) ≡ x ∷ filter p qs = ap (λ v. cond v (x ∷ filter p qs) (filter p qs)) e in ap (λ l. x ∷ l) h ∙ sym z
  twice_at true false p x ks qs e h = h
  twice_at false true p x ks qs e h = let z : filter p (x ∷ qs) ≡ filter p qs = ap (λ v. cond v (x ∷ filter p qs) (filter p qs)) e in h ∙ sym z
  twice_at false false p x ks qs e h = h

  -- two tests at once keep what one keeps of what the other kept
  pub kept_twice : (p q : A → Bool) (xs : List A) → filter (λ x. p x && q x) xs ≡ filter p (filter q xs)
  kept_twice p q [] = refl
  kept_twice p q (x ∷ xs) = twice_at (p x) (q x) p x (filter (λ y. p y && q y) xs) (filter q xs) refl (kept_twice p q xs)

  pub kept_swap : (p q : A → Bool) (xs : List A) → filter p (filter q xs) ≡ filter q (filter p xs)
  kept_swap p q xs = sym (kept_twice p q xs) ∙ (filter_agree (λ x. p x && q x) (λ x. q x && p x) (λ x. and_comm (p x) (q x)) xs ∙ kept_twice q p xs)

  kept_less : (p : A → Bool) (xs : List A) → length (filter p xs) ≤ length xs
  kept_less p xs = omega (arith, length-filter_both p (λ x. not (p x)) (λ x. refl) xs)

  -- one test more keeps no more
  pub kept_fewer : (p q : A → Bool) (xs : List A) → length (filter p (filter q xs)) ≤ length (filter p xs)
  kept_fewer p q xs = omega (arith, ap length (kept_swap p q xs), kept_less q (filter p xs))

  pub kept_and_fewer : (p q : A → Bool) (xs : List A) → length (filter (λ x. p x && q x) xs) ≤ length (filter p xs)
  kept_and_fewer p q xs = omega (arith, ap length (kept_twice p q xs), kept_fewer p q xs)

  pub kept_never : (xs : List A) → filter (λ _. false) xs ≡ []
  kept_never [] = refl
  kept_never (x ∷ xs) = kept_never xs

  whole_at : (b : Bool) (p : A → Bool) (x : A) (xs : List A) → (length (filter p xs) ≡ length xs → filter p xs ≡ xs) → length (cond b (x ∷ filter p xs) (filter p xs)) ≡ suc (length xs) → cond b (x ∷ filter p xs) (filter p xs) ≡ x ∷ xs
  whole_at true p x xs h e = ap (λ l. x ∷ l) (h (omega arith))
  whole_at false p x xs h e = absurd (omega (arith, kept_less p xs))

  -- what keeps as many keeps all
  pub kept_whole : (p : A → Bool) (xs : List A) → length (filter p xs) ≡ length xs → filter p xs ≡ xs
  kept_whole p [] e = refl
  kept_whole p (x ∷ xs) e = whole_at (p x) p x xs (kept_whole p xs) e
