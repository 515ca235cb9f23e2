-- The places below a number that pass a test, in a list. Assumes nothing.
use Rattle.std.proofs.Common.{◌≡◌, ℕ, zero, suc, ◌+◌, ◌<◌, ◌≤◌, Bool, true, false, cond, ◌||◌, ◌⊎◌, List, [], ◌∷◌, ◌++◌, length, get_or, take, set, sym, refl, ap, ◌∙◌, ap₂, inl, inr, append-nil, add-one, arith}
use Rattle.std.proofs.lemmas.List.{length_push, get_or_push, get_or_append_left, take_more_set, length-take-le}
use Rattle.std.proofs.lemmas.Bool.{cases_lt, cases_eq, or_from}
use Rattle.orders.specs.Places.{bit, tally, some}
use Rattle.bays.specs.Writes.{passing}

-- where none passes, there is not some that does
pub none_some : (n : ℕ) (f : ℕ → Bool) → ((p : ℕ) → p < n → f p ≡ false) → some n f ≡ false
none_some zero f h = refl
none_some (suc n) f h = or_from (f n) (some n f) (h n (omega arith)) (none_some n f (λ p l. h p (omega arith)))

-- tests that agree pass somewhere, or none does
pub some_eq : (n : ℕ) (f g : ℕ → Bool) → ((p : ℕ) → p < n → f p ≡ g p) → some n f ≡ some n g
some_eq zero f g h = refl
some_eq (suc n) f g h = ap₂ ◌||◌ (h n (omega arith)) (some_eq n f g (λ p l. h p (omega arith)))

-- and pass the same
pub passing_eq : (n : ℕ) (f g : ℕ → Bool) → ((p : ℕ) → p < n → f p ≡ g p) → passing n f ≡ passing n g
passing_eq zero f g h = refl
passing_eq (suc n) f g h = ap₂ (λ (l : List ℕ) (b : Bool). l ++ cond b (n ∷ []) []) (passing_eq n f g (λ p l. h p (omega arith))) (h n (omega arith))

-- a count of fewer places is no larger
pub tally_rising : (n : ℕ) (f : ℕ → Bool) (i : ℕ) → i ≤ n → tally i f ≤ tally n f
tally_rising zero f i l = let e : i ≡ 0 = omega arith in rw e (omega arith)
tally_rising (suc n) f i l = go (cases_lt i (suc n)) (tally_rising n f i)
  where
    go : ((i < suc n) ⊎ (suc n ≤ i)) → (i ≤ n → tally i f ≤ tally n f) → tally i f ≤ tally (suc n) f
    go (inl lt) more = omega (arith, more (omega arith))
    go (inr le) more = let e : i ≡ suc n = omega arith in rw e (omega arith)

module _ (n : ℕ) (f : ℕ → Bool) where
  -- one place more, where it passes and where it does not
  pub passing_yes : f n ≡ true → passing (suc n) f ≡ passing n f ++ (n ∷ [])
  passing_yes e = rw e

  pub passing_no : f n ≡ false → passing (suc n) f ≡ passing n f
  passing_no e = rw e (append-nil (passing n f))

pub passing_length : (n : ℕ) (f : ℕ → Bool) → length (passing n f) ≡ tally n f
passing_length zero f = refl
passing_length (suc n) f = go (f n) refl (passing_length n f)
  where
    go : (b : Bool) → f n ≡ b → length (passing n f) ≡ tally n f → length (passing (suc n) f) ≡ tally (suc n) f
    go true e more = omega (arith, ap bit e, ap length (passing_yes n f e), length_push (passing n f) n)
    go false e more = omega (arith, ap bit e, ap length (passing_no n f e))

-- what stands at a place of a list with one element more
at_push : (l : List ℕ) (x i : ℕ) → i < length (l ++ (x ∷ [])) → ((i < length l) × (get_or (l ++ (x ∷ [])) i 0 ≡ get_or l i 0)) ⊎ ((i ≡ length l) × (get_or (l ++ (x ∷ [])) i 0 ≡ x))
at_push l x i h = go (cases_lt i (length l))
  where
    go : ((i < length l) ⊎ (length l ≤ i)) → ((i < length l) × (get_or (l ++ (x ∷ [])) i 0 ≡ get_or l i 0)) ⊎ ((i ≡ length l) × (get_or (l ++ (x ∷ [])) i 0 ≡ x))
    go (inl lt) = inl (lt, get_or_append_left l (x ∷ []) 0 i lt)
    go (inr le) = let e : i ≡ length l = omega (arith, length_push l x) in inr (e, get_or_push l x 0 i (sym e))

-- each listed place is below n and passes
pub passing_is : (n : ℕ) (f : ℕ → Bool) (i : ℕ) → i < length (passing n f) → (get_or (passing n f) i 0 < n) × (f (get_or (passing n f) i 0) ≡ true)
passing_is zero f i h = absurd (omega arith)
passing_is (suc n) f i h = go (f n) refl (passing_is n f i)
  where
    Is : ℕ → List ℕ → Type 0
    Is m l = (get_or l i 0 < m) × (f (get_or l i 0) ≡ true)

    go : (b : Bool) → f n ≡ b → (i < length (passing n f) → Is n (passing n f)) → Is (suc n) (passing (suc n) f)
    go true e more = rw (passing_yes n f e) (last (at_push (passing n f) n i (rw (passing_yes n f e) at h)))
      where
        last : ((i < length (passing n f)) × (get_or (passing n f ++ (n ∷ [])) i 0 ≡ get_or (passing n f) i 0)) ⊎ ((i ≡ length (passing n f)) × (get_or (passing n f ++ (n ∷ [])) i 0 ≡ n)) → Is (suc n) (passing n f ++ (n ∷ []))
        last (inl x) = let m = more x.0 in (omega (arith, x.1, m.0), ap f x.1 ∙ m.1)
        last (inr x) = (omega (arith, x.1), ap f x.1 ∙ e)
    go false e more = rw (passing_no n f e) (let m = more (rw (passing_no n f e) at h) in (omega (arith, m.0), m.1))

-- each that is below n and passes is listed
pub passing_has : (n : ℕ) (f : ℕ → Bool) (p : ℕ) → p < n → f p ≡ true → (i : ℕ) × (i < length (passing n f)) × (get_or (passing n f) i 0 ≡ p)
passing_has zero f p h e = absurd (omega arith)
passing_has (suc n) f p h e = go (cases_eq p n) (f n) refl (λ l. passing_has n f p l e)
  where
    Has : List ℕ → Type 0
    Has l = (i : ℕ) × (i < length l) × (get_or l i 0 ≡ p)

    go : ((p ≡ n) ⊎ (p ≡ n → ⊥)) → (b : Bool) → f n ≡ b → (p < n → Has (passing n f)) → Has (passing (suc n) f)
    go (inl s) b t more = rw (passing_yes n f (ap f (sym s) ∙ e)) (length (passing n f), omega (arith, length_push (passing n f) n), get_or_push (passing n f) n 0 _ refl ∙ sym s)
    go (inr d) true t more = rw (passing_yes n f t) (let x = more (omega arith) in (x.0, omega (arith, x.1, length_push (passing n f) n), get_or_append_left (passing n f) (n ∷ []) 0 x.0 x.1 ∙ x.2))
    go (inr d) false t more = rw (passing_no n f t) (more (omega arith))

-- and they ascend
pub passing_rising : (n : ℕ) (f : ℕ → Bool) (i j : ℕ) → i < j → j < length (passing n f) → get_or (passing n f) i 0 < get_or (passing n f) j 0
passing_rising zero f i j l h = absurd (omega arith)
passing_rising (suc n) f i j l h = go (f n) refl (passing_rising n f i j l)
  where
    Rises : List ℕ → Type 0
    Rises l = get_or l i 0 < get_or l j 0

    go : (b : Bool) → f n ≡ b → (j < length (passing n f) → Rises (passing n f)) → Rises (passing (suc n) f)
    go true e more = rw (passing_yes n f e) (last (at_push (passing n f) n j (rw (passing_yes n f e) at h)))
      where
        last : ((j < length (passing n f)) × (get_or (passing n f ++ (n ∷ [])) j 0 ≡ get_or (passing n f) j 0)) ⊎ ((j ≡ length (passing n f)) × (get_or (passing n f ++ (n ∷ [])) j 0 ≡ n)) → Rises (passing n f ++ (n ∷ []))
        last (inl x) = omega (arith, x.1, more x.0, get_or_append_left (passing n f) (n ∷ []) 0 i (omega (arith, x.0)))
        last (inr x) = let lt : i < length (passing n f) = omega (arith, x.0) in omega (arith, x.1, get_or_append_left (passing n f) (n ∷ []) 0 i lt, (passing_is n f i lt).0)
    go false e more = rw (passing_no n f e) (more (rw (passing_no n f e) at h))

-- a count above 0 counts a place,
pub some_tally : (n : ℕ) (f : ℕ → Bool) → 0 < tally n f → (p : ℕ) × (p < n) × (f p ≡ true)
some_tally n f h = let x = passing_is n f 0 (omega (arith, passing_length n f)) in (get_or (passing n f) 0 0, x.0, x.1)

-- and a place that passes is counted
pub tally_some : (n : ℕ) (f : ℕ → Bool) (p : ℕ) → p < n → f p ≡ true → 0 < tally n f
tally_some n f p h e = omega (arith, tally_rising n f (suc p) h, ap bit e)

-- a loop that puts the passing places into the first places of a list
module _ (f : ℕ → Bool) (list : List ℕ) (count p : ℕ) (so_far : take count list ≡ passing p f) where
  pub gather_yes : f p ≡ true → count < length list → take (count + 1) (set list count p) ≡ passing (p + 1) f
  gather_yes e h = take_more_set list count p h ∙ ap (λ l. l ++ (p ∷ [])) so_far ∙ sym (passing_yes p f e) ∙ ap (λ n. passing n f) (sym (add-one p))

  pub gather_no : f p ≡ false → take count list ≡ passing (p + 1) f
  gather_no e = so_far ∙ sym (passing_no p f e) ∙ ap (λ n. passing n f) (sym (add-one p))

  -- one more passes than there is room for
  pub gather_over : (n : ℕ) → f p ≡ true → p < n → count ≤ length list → count < tally n f
  gather_over n e h l = omega (arith, tally_rising n f (suc p) h, ap bit e, passing_length p f, ap length so_far, length-take-le count list l)
