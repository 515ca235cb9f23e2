-- Sums, counts, the largest, and tests over the places below a number. Assumes nothing.
use Rattle.std.proofs.Common.{◌≡◌, ℕ, zero, suc, ◌+◌, ◌<◌, ◌≤◌, max, Bool, true, false, cond, not, ◌||◌, eqb, ltb, ◌⊎◌, sym, refl, ap, ◌∙◌, inl, inr, le_antisymm, arith}
use Rattle.std.proofs.lemmas.Bool.Decides.{nat_tests}
use Rattle.std.proofs.lemmas.Bool.{cases_eq, cases_lt, and_parts, and_from, or_cases, or_left, or_right, true≢false}
use Rattle.orders.specs.Places.{bit, total, tally, top, every, some}

-- a bit is at most 1
pub bit_small : (c : Bool) → bit c ≤ 1
bit_small true = omega arith
bit_small false = omega arith

-- what an implication as a test says
pub imply : (a c : Bool) → (not a || c) ≡ true → a ≡ true → c ≡ true
imply true c h e = h
imply false c h e = absurd (true≢false (sym e))

-- and the other way round
pub is_imply : (a c : Bool) → (a ≡ true → c ≡ true) → (not a || c) ≡ true
is_imply true c h = h refl
is_imply false c h = refl

-- sums of equal numbers are equal
pub total_eq : (n : ℕ) (f g : ℕ → ℕ) → ((p : ℕ) → p < n → f p ≡ g p) → total n f ≡ total n g
total_eq zero f g h = refl
total_eq (suc n) f g h = omega (arith, h n (omega arith), total_eq n f g (λ p l. h p (omega arith)))

-- where f is at most g and h together, so are the sums
pub total_le : (n : ℕ) (f g h : ℕ → ℕ) → ((p : ℕ) → p < n → f p ≤ g p + h p) → total n f ≤ total n g + total n h
total_le zero f g h le = omega arith
total_le (suc n) f g h le = omega (arith, le n (omega arith), total_le n f g h (λ p l. le p (omega arith)))

-- the sum of sums
pub total_add : (n : ℕ) (f g : ℕ → ℕ) → total n (λ p. f p + g p) ≡ total n f + total n g
total_add zero f g = refl
total_add (suc n) f g = omega (arith, total_add n f g)

-- a sum of zeros
pub total_zero : (n : ℕ) → total n (λ _. 0) ≡ 0
total_zero zero = refl
total_zero (suc n) = omega (arith, total_zero n)

-- a sum of ones
pub total_ones : (n : ℕ) → total n (λ _. 1) ≡ n
total_ones zero = refl
total_ones (suc n) = omega (arith, total_ones n)

-- a sum with one number at one place
pub total_point : (n x c : ℕ) → total n (λ p. cond (eqb x p) c 0) ≡ cond (ltb x n) c 0
total_point zero x c = grind (arith, nat_tests)
total_point (suc n) x c = let less = total_point n x c in grind (arith, nat_tests)

-- what is no more at each place, and not less in all, is the same at each
pub total_tight : (n : ℕ) (f g : ℕ → ℕ) → ((p : ℕ) → p < n → f p ≤ g p) → total n g ≤ total n f → (p : ℕ) → p < n → f p ≡ g p
total_tight zero f g le ge p l = absurd (omega arith)
total_tight (suc n) f g le ge p l = go (λ m. total_tight n f g (λ q k. le q (omega arith)) (omega (arith, le n (omega arith))) p m) (cases_eq p n)
  where
    less : total n f ≤ total n g + total n (λ _. 0)
    less = total_le n f g (λ _. 0) (λ q k. (let m = le q (omega arith) in omega arith))

    go : (p < n → f p ≡ g p) → ((p ≡ n) ⊎ (p ≡ n → ⊥)) → f p ≡ g p
    go more (inl e) = omega (arith, ap f e, ap g e, le n (omega arith), less, total_zero n)
    go more (inr e) = more (omega arith)

-- what passes f passes g
pub tally_le : (n : ℕ) (f g : ℕ → Bool) → ((p : ℕ) → p < n → f p ≡ true → g p ≡ true) → tally n f ≤ tally n g
tally_le n f g h = omega (arith, total_zero n, total_le n (λ p. bit (f p)) (λ p. bit (g p)) (λ _. 0) (λ p l. one (f p) (g p) (h p l)))
  where
    one : (a b : Bool) → (a ≡ true → b ≡ true) → bit a ≤ bit b + 0
    one true b k = grind arith
    one false b k = omega arith

-- what passes f passes g or h
pub tally_or : (n : ℕ) (f g h : ℕ → Bool) → ((p : ℕ) → p < n → f p ≡ true → (g p ≡ true) ⊎ (h p ≡ true)) → tally n f ≤ tally n g + tally n h
tally_or n f g h c = total_le n (λ p. bit (f p)) (λ p. bit (g p)) (λ p. bit (h p)) (λ p l. one (f p) (g p) (h p) (c p l))
  where
    one : (a b d : Bool) → (a ≡ true → (b ≡ true) ⊎ (d ≡ true)) → bit a ≤ bit b + bit d
    one true b d k = grind arith
    one false b d k = omega arith

-- two that exclude one another, within a third
pub tally_both : (n : ℕ) (f g h : ℕ → Bool) → ((p : ℕ) → p < n → f p ≡ true → (h p ≡ true) × (g p ≡ false)) → ((p : ℕ) → p < n → g p ≡ true → h p ≡ true) → tally n f + tally n g ≤ tally n h
tally_both n f g h c d =
    let le : total n (λ p. bit (f p) + bit (g p)) ≤ total n (λ p. bit (h p)) + total n (λ _. 0) = total_le n (λ p. bit (f p) + bit (g p)) (λ p. bit (h p)) (λ _. 0) (λ p l. one (f p) (g p) (h p) (c p l) (d p l)) in
    omega (arith, total_zero n, total_add n (λ p. bit (f p)) (λ p. bit (g p)))
  where
    one : (a b e : Bool) → (a ≡ true → (e ≡ true) × (b ≡ false)) → (b ≡ true → e ≡ true) → bit a + bit b ≤ bit e + 0
    one true true e k m = grind arith
    one true false e k m = grind arith
    one false true e k m = grind arith
    one false false e k m = grind arith

-- exactly one place is x
pub tally_point : (n x : ℕ) → tally n (λ p. eqb x p) ≡ bit (ltb x n)
tally_point n x = total_point n x 1

-- at most one place passes
pub tally_one : (n : ℕ) (f : ℕ → Bool) → ((p q : ℕ) → p < n → q < n → f p ≡ true → f q ≡ true → p ≡ q) → tally n f ≤ 1
tally_one zero f h = omega arith
tally_one (suc n) f h = go (tally_one n f (λ p q l m. h p q (omega arith) (omega arith))) (f n) refl
  where
    go : tally n f ≤ 1 → (b : Bool) → f n ≡ b → bit (f n) + tally n f ≤ 1
    go more false e = grind arith
    go more true e =
        let none : tally n f ≤ tally n (λ _. false) = tally_le n f (λ _. false) (λ p l t. let same : p ≡ n = h p n (omega arith) (omega arith) t e in absurd (omega arith)) in
        let zero-all : tally n (λ _. false) ≡ 0 = total_zero n in
        grind arith

-- each is at most the largest
pub le_top : (n : ℕ) (f : ℕ → ℕ) (p : ℕ) → p < n → f p ≤ top n f
le_top zero f p h = absurd (omega arith)
le_top (suc n) f p h = go (λ l. le_top n f p l) (cases_eq p n)
  where
    go : (p < n → f p ≤ top n f) → ((p ≡ n) ⊎ (p ≡ n → ⊥)) → f p ≤ max (f n) (top n f)
    go more (inl e) = omega (arith, ap f e)
    go more (inr e) = omega (arith, more (omega arith))

-- the largest is at most what each is at most
pub top_le : (n : ℕ) (f : ℕ → ℕ) (k : ℕ) → ((p : ℕ) → p < n → f p ≤ k) → top n f ≤ k
top_le zero f k h = omega arith
top_le (suc n) f k h = omega (arith, h n (omega arith), top_le n f k (λ p l. h p (omega arith)))

-- the largest is that of some place, unless it is 0
pub top_is : (n : ℕ) (f : ℕ → ℕ) → (top n f ≡ 0) ⊎ ((p : ℕ) × (p < n) × (top n f ≡ f p))
top_is zero f = inl refl
top_is (suc n) f = go (cases_lt (top n f) (f n)) (top_is n f)
  where
    go : ((top n f < f n) ⊎ (f n ≤ top n f)) → ((top n f ≡ 0) ⊎ ((p : ℕ) × (p < n) × (top n f ≡ f p))) → (max (f n) (top n f) ≡ 0) ⊎ ((p : ℕ) × (p < suc n) × (max (f n) (top n f) ≡ f p))
    go (inl l) _ = inr (n, omega arith, omega arith)
    go (inr l) (inl z) = inl (omega arith)
    go (inr l) (inr m) = inr (m.0, omega arith, omega arith)

-- the largest of equal numbers is equal
pub top_eq : (n : ℕ) (f g : ℕ → ℕ) → ((p : ℕ) → p < n → f p ≡ g p) → top n f ≡ top n g
top_eq n f g h = le_antisymm (top_le n f _ (λ p l. omega (arith, h p l, le_top n g p l))) (top_le n g _ (λ p l. omega (arith, h p l, le_top n f p l)))

-- if every place passes, this one does
pub every_is : (n : ℕ) (f : ℕ → Bool) → every n f ≡ true → (p : ℕ) → p < n → f p ≡ true
every_is zero f h p l = absurd (omega arith)
every_is (suc n) f h p l = let x = and_parts _ _ h in go x.0 (λ m. every_is n f x.1 p m) (cases_eq p n)
  where
    go : f n ≡ true → (p < n → f p ≡ true) → ((p ≡ n) ⊎ (p ≡ n → ⊥)) → f p ≡ true
    go here more (inl e) = ap f e ∙ here
    go here more (inr e) = more (omega arith)

-- and the other way round
pub is_every : (n : ℕ) (f : ℕ → Bool) → ((p : ℕ) → p < n → f p ≡ true) → every n f ≡ true
is_every zero f h = refl
is_every (suc n) f h = and_from _ _ (h n (omega arith)) (is_every n f (λ p l. h p (omega arith)))

-- if some place passes, here is one
pub some_is : (n : ℕ) (f : ℕ → Bool) → some n f ≡ true → (p : ℕ) × (p < n) × (f p ≡ true)
some_is zero f h = absurd (true≢false (sym h))
some_is (suc n) f h = go (or_cases _ _ h) (some_is n f)
  where
    go : ((f n ≡ true) ⊎ (some n f ≡ true)) → (some n f ≡ true → (p : ℕ) × (p < n) × (f p ≡ true)) → (p : ℕ) × (p < suc n) × (f p ≡ true)
    go (inl e) more = (n, omega arith, e)
    go (inr e) more = let x = more e in (x.0, omega (arith, x.1), x.2)

-- and the other way round
pub is_some : (n : ℕ) (f : ℕ → Bool) (p : ℕ) → p < n → f p ≡ true → some n f ≡ true
is_some zero f p l h = absurd (omega arith)
is_some (suc n) f p l h = go (λ m. is_some n f p m h) (cases_eq p n)
  where
    go : (p < n → some n f ≡ true) → ((p ≡ n) ⊎ (p ≡ n → ⊥)) → (f n || some n f) ≡ true
    go more (inl e) = or_left _ _ (ap f (sym e) ∙ h)
    go more (inr e) = or_right _ _ (more (omega arith))
