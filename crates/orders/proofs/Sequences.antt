-- Sequences of places: where a place stands, joined sequences, and the part that passes a test. Assumes nothing.
use Rattle.std.proofs.Common.{◌≡◌, ℕ, zero, suc, ◌+◌, ◌<◌, ◌≤◌, Bool, true, false, cond, ◌&&◌, eqb, ltb, ◌⊎◌, List, [], ◌∷◌, ◌++◌, length, sym, refl, ap, ◌∙◌, inl, inr, arith}
use Rattle.std.proofs.lemmas.Bool.Decides.{nat_tests}
use Rattle.std.proofs.lemmas.Bool.{cases_eq, eqb-true, eq-eqb, ltb-true, lt-ltb, and_parts}
use Rattle.orders.specs.Places.{bit, total, tally, times, position, Earlier}
use Rattle.orders.proofs.Counts.{total_eq, total_add, total_point, total_zero, tally_le, tally_or, tally_one}

-- no position is past the length
pub position_le : (l : List ℕ) (p : ℕ) → position l p ≤ length l
position_le [] p = omega arith
position_le (x ∷ xs) p = let more = position_le xs p in grind (arith, nat_tests)

-- a member stands within the sequence
pub position_in : (l : List ℕ) (p : ℕ) → 0 < times p l → position l p < length l
position_in [] p h = absurd (omega arith)
position_in (x ∷ xs) p h = let more = λ (k : 0 < times p xs). position_in xs p k in grind (arith, nat_tests)

-- what is no member has the length as its position
pub position_out : (l : List ℕ) (p : ℕ) → times p l ≡ 0 → position l p ≡ length l
position_out [] p h = refl
position_out (x ∷ xs) p h = let more = λ (k : times p xs ≡ 0). position_out xs p k in grind (arith, nat_tests)

-- what stands within the sequence is a member
pub in_position : (l : List ℕ) (p : ℕ) → position l p < length l → 0 < times p l
in_position [] p h = absurd (omega arith)
in_position (x ∷ xs) p h = let more = λ (k : position xs p < length xs). in_position xs p k in grind (arith, nat_tests)

-- what stands earlier than anything is a member
pub earlier_in : (l : List ℕ) (a b : ℕ) → Earlier l a b → 0 < times a l
earlier_in l a b h = in_position l a (omega (arith, position_le l b))

-- two places that stand at one position are one
pub position_same : (l : List ℕ) (a b : ℕ) → position l a < length l → position l a ≡ position l b → a ≡ b
position_same [] a b h e = absurd (omega arith)
position_same (x ∷ xs) a b h e = let more = λ (k : position xs a < length xs) (j : position xs a ≡ position xs b). position_same xs a b k j in grind (arith, nat_tests)

-- members of joined sequences, counted
pub times_append : (x : ℕ) (l m : List ℕ) → times x (l ++ m) ≡ times x l + times x m
times_append x [] m = omega arith
times_append x (y ∷ ys) m = omega (arith, times_append x ys m)

-- the position of a member of the first of two joined sequences
pub position_append_in : (l m : List ℕ) (x : ℕ) → 0 < times x l → position (l ++ m) x ≡ position l x
position_append_in [] m x h = absurd (omega arith)
position_append_in (y ∷ ys) m x h = let more = λ (k : 0 < times x ys). position_append_in ys m x k in grind (arith, nat_tests)

-- the position of what is no member of the first
pub position_append_out : (l m : List ℕ) (x : ℕ) → times x l ≡ 0 → position (l ++ m) x ≡ length l + position m x
position_append_out [] m x h = omega arith
position_append_out (y ∷ ys) m x h = let more = λ (k : times x ys ≡ 0). position_append_out ys m x k in grind (arith, nat_tests)

-- the length is the sum of how often each place stands in the sequence
pub length_total : (n : ℕ) (l : List ℕ) → ((p : ℕ) → 0 < times p l → p < n) → length l ≡ total n (λ p. times p l)
length_total n [] h = sym (total_zero n)
length_total n (x ∷ xs) h =
    let more : length xs ≡ total n (λ p. times p xs) = length_total n xs (λ p m. h p (omega arith)) in
    let sum : total n (λ p. bit (eqb x p) + times p xs) ≡ total n (λ p. bit (eqb x p)) + total n (λ p. times p xs) = total_add n (λ p. bit (eqb x p)) (λ p. times p xs) in
    let one : total n (λ p. bit (eqb x p)) ≡ bit (ltb x n) = total_point n x 1 in
    omega (arith, ap bit (lt-ltb x n (h x (omega (arith, ap bit (eq-eqb x x refl))))))

-- the places that pass, in their order
abbrev pub keep : (ℕ → Bool) → List ℕ → List ℕ
keep q [] = []
keep q (x ∷ xs) = cond (q x) (x ∷ keep q xs) (keep q xs)

-- what passes is kept as often as it stood
pub times_keep : (q : ℕ → Bool) (l : List ℕ) (p : ℕ) → times p (keep q l) ≡ cond (q p) (times p l) 0
times_keep q [] p = grind arith
times_keep q (x ∷ xs) p = go (q x) refl (cases_eq x p) (times_keep q xs p)
  where
    go : (b : Bool) → q x ≡ b → ((x ≡ p) ⊎ (x ≡ p → ⊥)) → times p (keep q xs) ≡ cond (q p) (times p xs) 0 → times p (cond (q x) (x ∷ keep q xs) (keep q xs)) ≡ cond (q p) (bit (eqb x p) + times p xs) 0
    go true e (inl s) more = let k : q p ≡ true = ap q (sym s) ∙ e in grind (arith, nat_tests)
    go true e (inr s) more = grind (arith, nat_tests)
    go false e (inl s) more = let k : q p ≡ false = ap q (sym s) ∙ e in grind (arith, nat_tests)
    go false e (inr s) more = grind (arith, nat_tests)

-- what is kept keeps its order
pub keep_earlier : (q : ℕ → Bool) (l : List ℕ) (a b : ℕ) → q a ≡ true → Earlier l a b → Earlier (keep q l) a b
keep_earlier q [] a b h lt = absurd (omega arith)
keep_earlier q (x ∷ xs) a b h lt = go (cases_eq x a) (cases_eq x b) (q x) refl (keep_earlier q xs a b h)
  where
    go : ((x ≡ a) ⊎ (x ≡ a → ⊥)) → ((x ≡ b) ⊎ (x ≡ b → ⊥)) → (c : Bool) → q x ≡ c → (Earlier xs a b → Earlier (keep q xs) a b) → Earlier (cond (q x) (x ∷ keep q xs) (keep q xs)) a b
    go (inl e) s false k more = let t : q x ≡ true = ap q e ∙ h in grind (arith, nat_tests)
    go (inl e) (inl s) true k more = grind (arith, nat_tests)
    go (inl e) (inr s) true k more = grind (arith, nat_tests)
    go (inr e) (inl s) c k more = absurd (grind (arith, nat_tests))
    go (inr e) (inr s) true k more = let m : Earlier xs a b = grind (arith, nat_tests) in let n = more m in grind (arith, nat_tests)
    go (inr e) (inr s) false k more = let m : Earlier xs a b = grind (arith, nat_tests) in let n = more m in grind (arith, nat_tests)

-- how many that pass q stand before p
abbrev pub ahead : (ℕ → Bool) → List ℕ → ℕ → ℕ
ahead q [] p = 0
ahead q (x ∷ xs) p = cond (eqb x p) 0 (bit (q x) + ahead q xs p)

-- that is the position among those that are kept
pub position_keep : (q : ℕ → Bool) (l : List ℕ) (p : ℕ) → q p ≡ true → position (keep q l) p ≡ ahead q l p
position_keep q [] p h = refl
position_keep q (x ∷ xs) p h = go (q x) refl (cases_eq x p) (position_keep q xs p h)
  where
    go : (b : Bool) → q x ≡ b → ((x ≡ p) ⊎ (x ≡ p → ⊥)) → position (keep q xs) p ≡ ahead q xs p → position (cond (q x) (x ∷ keep q xs) (keep q xs)) p ≡ cond (eqb x p) 0 (bit (q x) + ahead q xs p)
    go true e (inl s) more = grind (arith, nat_tests)
    go true e (inr s) more = grind (arith, nat_tests)
    go false e (inl s) more = let k : q x ≡ true = ap q s ∙ h in grind (arith, nat_tests)
    go false e (inr s) more = grind (arith, nat_tests)

-- and a count over the places below n, where each place stands at most once
pub ahead_tally : (n : ℕ) (q : ℕ → Bool) (l : List ℕ) (r : ℕ) → ((p : ℕ) → times p l ≤ bit (ltb p n)) → ahead q l r ≡ tally n (λ p. q p && ltb (position l p) (position l r))
ahead_tally n q [] r h = sym (total_eq n (λ p. bit (q p && ltb 0 0)) (λ _. 0) (λ p _. one (q p)) ∙ total_zero n)
  where
    one : (b : Bool) → bit (b && ltb 0 0) ≡ 0
    one true = refl
    one false = refl
ahead_tally n q (x ∷ xs) r h = go (cases_eq x r) (ahead_tally n q xs r (λ p. let k = h p in omega arith))
  where
    old : ℕ → ℕ
    old p = bit (q p && ltb (position xs p) (position xs r))

    new : ℕ → ℕ
    new p = bit (q p && ltb (position (x ∷ xs) p) (position (x ∷ xs) r))

    here : ℕ → ℕ
    here p = cond (eqb x p) (bit (q x)) 0

    none : x ≡ r → (p : ℕ) → p < n → new p ≡ 0
    none s p l = one (q p)
      where
        one : (b : Bool) → bit (b && ltb (position (x ∷ xs) p) (position (x ∷ xs) r)) ≡ 0
        one true = grind (arith, nat_tests)
        one false = refl

    each : (x ≡ r → ⊥) → (p : ℕ) → p < n → new p ≡ here p + old p
    each s p l = one (cases_eq x p) (q p) refl
      where
        one : ((x ≡ p) ⊎ (x ≡ p → ⊥)) → (b : Bool) → q p ≡ b → new p ≡ here p + old p
        one (inl e) true k =
            let u : q x ≡ true = ap q e ∙ k in
            let z : times x xs ≡ 0 = let m = h x in grind (arith, nat_tests) in
            let o : position xs x ≡ length xs = position_out xs x z in
            let o2 : position xs p ≡ position xs x = ap (position xs) (sym e) in
            let m = position_le xs r in
            grind (arith, nat_tests)
        one (inl e) false k = let u : q x ≡ false = ap q e ∙ k in grind (arith, nat_tests)
        one (inr e) true k = grind (arith, nat_tests)
        one (inr e) false k = grind (arith, nat_tests)

    go : ((x ≡ r) ⊎ (x ≡ r → ⊥)) → ahead q xs r ≡ tally n (λ p. q p && ltb (position xs p) (position xs r)) → cond (eqb x r) 0 (bit (q x) + ahead q xs r) ≡ tally n (λ p. q p && ltb (position (x ∷ xs) p) (position (x ∷ xs) r))
    go (inl s) more =
        let t : total n new ≡ total n (λ _. 0) = total_eq n new (λ _. 0) (none s) in
        let z = total_zero n in
        grind (arith, nat_tests)
    go (inr s) more =
        let t : total n new ≡ total n (λ p. here p + old p) = total_eq n new (λ p. here p + old p) (each s) in
        let a : total n (λ p. here p + old p) ≡ total n here + total n old = total_add n here old in
        let b : total n here ≡ cond (ltb x n) (bit (q x)) 0 = total_point n x (bit (q x)) in
        let m = h x in
        grind (arith, nat_tests)

-- of the places that pass q, those numbered from a + 1 to a + d
abbrev pub window : (ℕ → Bool) → (ℕ → ℕ) → ℕ → ℕ → ℕ → Bool
window q f a d p = q p && (ltb a (f p) && ltb (f p) (suc (a + d)))

-- where the numbers differ, these are at most d
pub window_le : (n : ℕ) (q : ℕ → Bool) (f : ℕ → ℕ) → ((x y : ℕ) → q x ≡ true → q y ≡ true → f x ≡ f y → x ≡ y) → (a d : ℕ) → tally n (window q f a d) ≤ d
window_le n q f h a zero =
    let none : tally n (window q f a 0) ≤ tally n (λ _. false) = tally_le n (window q f a 0) (λ _. false) (λ p l e. (
    let y = and_parts (ltb a (f p)) _ (and_parts (q p) _ e).1 in
    absurd (omega (arith, ltb-true _ _ y.0, ltb-true _ _ y.1)))) in
    omega (arith, total_zero n)
window_le n q f h a (suc d) = omega (arith, window_le n q f h a d, tally_one n last same, tally_or n (window q f a (suc d)) (window q f a d) last (λ p l. split p))
  where
    last : ℕ → Bool
    last p = q p && eqb (f p) (suc (a + d))

    same : (x y : ℕ) → x < n → y < n → last x ≡ true → last y ≡ true → x ≡ y
    same x y l m e k =
        let u = and_parts _ _ e in
        let v = and_parts _ _ k in
        h x y u.0 v.0 (eqb-true _ _ u.1 ∙ sym (eqb-true _ _ v.1))

    split : (p : ℕ) → window q f a (suc d) p ≡ true → (window q f a d p ≡ true) ⊎ (last p ≡ true)
    split p e = go (cases_eq (f p) (suc (a + d)))
      where
        go : ((f p ≡ suc (a + d)) ⊎ (f p ≡ suc (a + d) → ⊥)) → (window q f a d p ≡ true) ⊎ (last p ≡ true)
        go (inl s) = inr (grind (arith, nat_tests))
        go (inr s) = inl (grind (arith, nat_tests))
