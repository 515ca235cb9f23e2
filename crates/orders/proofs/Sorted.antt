-- Sequences of places sorted by a key. Assumes nothing.
use Rattle.std.proofs.Common.{◌≡◌, ℕ, zero, suc, ◌+◌, ◌*◌, ◌<◌, ◌≤◌, Bool, true, false, cond, ◌&&◌, eqb, ltb, ◌⊎◌, List, [], ◌∷◌, sym, refl, ap, ◌∙◌, inl, inr, mul-le-mul_right, arith}
use Rattle.std.proofs.lemmas.Bool.Decides.{nat_tests}
use Rattle.std.proofs.lemmas.Bool.{cases_eq, cases_order, ltb-true, ltb-false, lt-ltb, and_parts}
use Rattle.orders.specs.Places.{bit, top, times, position, Earlier}
use Rattle.orders.proofs.Counts.{le_top}
use Rattle.orders.proofs.Sequences.{earlier_in}

-- p put in before the first that has a greater key
abbrev pub insert : (ℕ → ℕ) → ℕ → List ℕ → List ℕ
insert key p [] = p ∷ []
insert key p (x ∷ xs) = cond (ltb (key p) (key x)) (p ∷ x ∷ xs) (x ∷ insert key p xs)

-- the places below n that pass, by their keys
abbrev pub arrange : (ℕ → ℕ) → (ℕ → Bool) → ℕ → List ℕ
arrange key held zero = []
arrange key held (suc n) = cond (held n) (insert key n (arrange key held n)) (arrange key held n)

-- p stands once more, and the others as often as before
pub times_insert : (key : ℕ → ℕ) (p q : ℕ) (l : List ℕ) → times q (insert key p l) ≡ bit (eqb p q) + times q l
times_insert key p q [] = refl
times_insert key p q (x ∷ xs) = let more = times_insert key p q xs in grind (arith, nat_tests)

-- each place below n that passes stands once, and no other does
pub times_arrange : (key : ℕ → ℕ) (held : ℕ → Bool) (n p : ℕ) → times p (arrange key held n) ≡ bit (ltb p n && held p)
times_arrange key held zero p = grind (arith, nat_tests)
times_arrange key held (suc n) p = go (cases_eq n p) (held n) refl (times_arrange key held n p)
  where
    go : ((n ≡ p) ⊎ (n ≡ p → ⊥)) → (b : Bool) → held n ≡ b → times p (arrange key held n) ≡ bit (ltb p n && held p) → times p (cond (held n) (insert key n (arrange key held n)) (arrange key held n)) ≡ bit (ltb p (suc n) && held p)
    go (inl e) true k more = let t = times_insert key n p (arrange key held n) in let u : held p ≡ true = ap held (sym e) ∙ k in grind (arith, nat_tests)
    go (inl e) false k more = let u : held p ≡ false = ap held (sym e) ∙ k in grind (arith, nat_tests)
    go (inr e) true k more = let t = times_insert key n p (arrange key held n) in grind (arith, nat_tests)
    go (inr e) false k more = grind (arith, nat_tests)

-- the keys rise
abbrev pub Rising : (ℕ → ℕ) → List ℕ → Type 0
Rising key [] = Unit {0}
Rising key (x ∷ xs) = ((p : ℕ) → 0 < times p xs → key x < key p) × Rising key xs

-- they still rise with a place of another key put in
pub rising_insert : (key : ℕ → ℕ) (p : ℕ) (l : List ℕ) → Rising key l → ((q : ℕ) → 0 < times q l → key q ≡ key p → ⊥) → Rising key (insert key p l)
rising_insert key p [] r h = (λ q l. absurd (omega arith), tt)
rising_insert key p (x ∷ xs) r h = go (ltb (key p) (key x)) refl (rising_insert key p xs r.1 (λ q l. h q (omega arith)))
  where
    go : (b : Bool) → ltb (key p) (key x) ≡ b → Rising key (insert key p xs) → Rising key (cond b (p ∷ x ∷ xs) (x ∷ insert key p xs))
    go true e more = (λ q l. first q l, r)
      where
        first : (q : ℕ) → 0 < times q (x ∷ xs) → key p < key q
        first q l = one (cases_eq x q)
          where
            one : ((x ≡ q) ⊎ (x ≡ q → ⊥)) → key p < key q
            one (inl s) = let k : key x ≡ key q = ap key s in omega (arith, ltb-true (key p) (key x) e)
            one (inr s) = let m : 0 < times q xs = grind (arith, nat_tests) in let k = r.0 q m in omega (arith, ltb-true (key p) (key x) e)
    go false e more = (λ q l. first q l, more)
      where
        first : (q : ℕ) → 0 < times q (insert key p xs) → key x < key q
        first q l = one (cases_eq p q)
          where
            one : ((p ≡ q) ⊎ (p ≡ q → ⊥)) → key x < key q
            one (inl s) = let k : key p ≡ key q = ap key s in let d = h x (grind (arith, nat_tests)) in omega (arith, ltb-false (key p) (key x) e, d)
            one (inr s) = let t = times_insert key p q xs in let m : 0 < times q xs = grind (arith, nat_tests) in r.0 q m

-- they rise where places have different keys
pub rising_arrange : (key : ℕ → ℕ) (held : ℕ → Bool) (n : ℕ) → ((a b : ℕ) → a < n → b < n → held a ≡ true → held b ≡ true → key a ≡ key b → a ≡ b) → Rising key (arrange key held n)
rising_arrange key held zero h = tt
rising_arrange key held (suc n) h = go (held n) refl (rising_arrange key held n (λ a b l m. h a b (omega arith) (omega arith)))
  where
    go : (b : Bool) → held n ≡ b → Rising key (arrange key held n) → Rising key (cond b (insert key n (arrange key held n)) (arrange key held n))
    go false e more = more
    go true e more = rising_insert key n (arrange key held n) more other
      where
        other : (q : ℕ) → 0 < times q (arrange key held n) → key q ≡ key n → ⊥
        other q l k =
            let t = times_arrange key held n q in
            let m : (ltb q n && held q) ≡ true = grind (arith, nat_tests) in
            let c = and_parts (ltb q n) (held q) m in
            let d = ltb-true q n c.0 in
            let s : q ≡ n = h q n (omega arith) (omega arith) c.1 e k in
            omega arith

-- where the keys rise, a smaller key stands earlier
pub rising_position : (key : ℕ → ℕ) (l : List ℕ) → Rising key l → (a b : ℕ) → 0 < times a l → 0 < times b l → key a < key b → position l a < position l b
rising_position key [] r a b ha hb k = absurd (omega arith)
rising_position key (x ∷ xs) r a b ha hb k = go (cases_eq x a) (cases_eq x b) (rising_position key xs r.1 a b)
  where
    go : ((x ≡ a) ⊎ (x ≡ a → ⊥)) → ((x ≡ b) ⊎ (x ≡ b → ⊥)) → (0 < times a xs → 0 < times b xs → key a < key b → position xs a < position xs b) → position (x ∷ xs) a < position (x ∷ xs) b
    go (inl e) (inl f) more = let s : key a ≡ key b = ap key (sym e ∙ f) in absurd (omega arith)
    go (inl e) (inr f) more = grind (arith, nat_tests)
    go (inr e) (inl f) more = let s : key x ≡ key b = ap key f in let m : 0 < times a xs = grind (arith, nat_tests) in let o = r.0 a m in absurd (omega arith)
    go (inr e) (inr f) more = let m : 0 < times a xs = grind (arith, nat_tests) in let o : 0 < times b xs = grind (arith, nat_tests) in let i = more m o k in grind (arith, nat_tests)

-- two keys as one, the first deciding
abbrev pub pair : ℕ → (ℕ → ℕ) → (ℕ → ℕ) → ℕ → ℕ
pair n f g p = f p * suc (top n g) + g p

module _ (n : ℕ) (f g : ℕ → ℕ) where
  -- a smaller first key decides
  pub pair_first : (a b : ℕ) → a < n → f a < f b → pair n f g a < pair n f g b
  pair_first a b l h =
      let m : suc (f a) * suc (top n g) ≤ f b * suc (top n g) = mul-le-mul_right (suc (top n g)) h in
      let t = le_top n g a l in
      omega arith

  -- at one first key the second decides
  pub pair_second : (a b : ℕ) → f a ≡ f b → g a < g b → pair n f g a < pair n f g b
  pair_second a b e h = let m : f a * suc (top n g) ≡ f b * suc (top n g) = ap (λ x. x * suc (top n g)) e in omega arith

  -- one pair of keys is one key each
  pub pair_same : (a b : ℕ) → a < n → b < n → pair n f g a ≡ pair n f g b → (f a ≡ f b) × (g a ≡ g b)
  pair_same a b l m e = go (cases_order (f a) (f b)) (cases_order (g a) (g b))
    where
      go : ((f a ≡ f b) ⊎ ((f a < f b) ⊎ (f b < f a))) → ((g a ≡ g b) ⊎ ((g a < g b) ⊎ (g b < g a))) → (f a ≡ f b) × (g a ≡ g b)
      go (inl s) (inl t) = (s, t)
      go (inl s) (inr (inl t)) = let k = pair_second a b s t in absurd (omega arith)
      go (inl s) (inr (inr t)) = let k = pair_second b a (sym s) t in absurd (omega arith)
      go (inr (inl s)) t = let k = pair_first a b l s in absurd (omega arith)
      go (inr (inr s)) t = let k = pair_first b a m s in absurd (omega arith)

-- places sorted by different keys
module _ (n : ℕ) (held : ℕ → Bool) (key : ℕ → ℕ) (below : (p : ℕ) → held p ≡ true → p < n) (differ : (a b : ℕ) → held a ≡ true → held b ≡ true → key a ≡ key b → a ≡ b) where
  -- each held place stands once, and no other does
  pub times_arranged : (p : ℕ) → times p (arrange key held n) ≡ bit (held p)
  times_arranged p = times_arrange key held n p ∙ one (held p) refl
    where
      one : (c : Bool) → held p ≡ c → bit (ltb p n && held p) ≡ bit (held p)
      one true e = rw (e, lt-ltb p n (below p e))
      one false e = grind arith

  -- a smaller key stands earlier
  pub arranged_earlier : (a b : ℕ) → held a ≡ true → held b ≡ true → key a < key b → Earlier (arrange key held n) a b
  arranged_earlier a b ha hb lt = rising_position key (arrange key held n) (rising_arrange key held n (λ x y l m. differ x y)) a b (omega (arith, times_arranged a, ap bit ha)) (omega (arith, times_arranged b, ap bit hb)) lt

  -- and what stands earlier has a smaller key
  pub arranged_key : (a b : ℕ) → held b ≡ true → Earlier (arrange key held n) a b → key a < key b
  arranged_key a b hb lt = go (let i = earlier_in (arrange key held n) a b lt in let t = times_arranged a in grind arith) (cases_order (key a) (key b))
    where
      go : held a ≡ true → ((key a ≡ key b) ⊎ ((key a < key b) ⊎ (key b < key a))) → key a < key b
      go ha (inl e) = let s : position (arrange key held n) a ≡ position (arrange key held n) b = ap (position (arrange key held n)) (differ a b ha hb e) in absurd (omega arith)
      go ha (inr (inl l)) = l
      go ha (inr (inr l)) = absurd (omega (arith, arranged_earlier b a hb ha l))
