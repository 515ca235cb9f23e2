-- The reads of a write, one operation more at a time. Assumes nothing.
use Rattle.std.proofs.Common.{◌≡◌, ℕ, zero, suc, ◌+◌, ◌<◌, ◌≤◌, min, Bool, true, false, cond, leb, ◌⊎◌, List, [], ◌∷◌, length, take, Some, None, Option, sym, refl, ap, ◌∙◌, inl, inr, add-one, arith}
use Rattle.std.proofs.lemmas.Bool.{cases_eq, both_ways, cond-true, cond-false, leb-true, leb-false}
use Rattle.orders.specs.Orders.{Operation, at, reads, soonest}
use Rattle.gathering.specs.Gathering.{LastRead}
use Rattle.gathering.specs.Writes.{later}

min_swap : (s t : Bool) (a b c : ℕ) → cond s (min a (cond t (min b c) c)) (cond t (min b c) c) ≡ cond t (min b (cond s (min a c) c)) (cond s (min a c) c)
min_swap true true a b c = omega arith
min_swap true false a b c = refl
min_swap false true a b c = refl
min_swap false false a b c = refl

-- the smallest finish with one operation more
soonest_more : (ops : List Operation) (w : Operation) (i : ℕ) → i < length ops → soonest (take (i + 1) ops) w ≡ cond (reads (at ops i) w) (min (at ops i).finish (soonest (take i ops) w)) (soonest (take i ops) w)
soonest_more [] w i h = absurd (omega arith)
soonest_more (r ∷ rs) w zero h = refl
soonest_more (r ∷ rs) w (suc i) h =
    ap (λ n. soonest (take n (r ∷ rs)) w) (add-one (suc i))
    ∙ ap (λ n. cond (reads r w) (min r.finish (soonest (take n rs) w)) (soonest (take n rs) w)) (sym (add-one i))
    ∙ ap (λ s. cond (reads r w) (min r.finish s) s) (soonest_more rs w i (omega arith))
    ∙ min_swap (reads r w) (reads (at rs i) w) r.finish (at rs i).finish (soonest (take i rs) w)

-- what does not read w leaves its last read
pub last_same : (ops : List Operation) (w : Operation) (n : ℕ) (held : Option ℕ) → LastRead ops n w held → reads (at ops n) w ≡ false → LastRead ops (n + 1) w held
last_same ops w n (Some start) l e = ((l.0.0, omega (arith, l.0.1), l.0.2, l.0.3), λ p h f. go p h f (cases_eq p n))
  where
    go : (p : ℕ) → p < n + 1 → reads (at ops p) w ≡ true → ((p ≡ n) ⊎ (p ≡ n → ⊥)) → (at ops p).start ≤ start
    go p h f (inl s) = absurd (both_ways _ e (ap (λ x. reads (at ops x) w) (sym s) ∙ f))
    go p h f (inr d) = l.1 p (omega arith) f
last_same ops w n None l e = λ p h. go p h (cases_eq p n)
  where
    go : (p : ℕ) → p < n + 1 → ((p ≡ n) ⊎ (p ≡ n → ⊥)) → reads (at ops p) w ≡ false
    go p h (inl s) = ap (λ x. reads (at ops x) w) s ∙ e
    go p h (inr d) = l p (omega arith)

module _ (ops : List Operation) (w : Operation) (n : ℕ) (h : n < length ops) where
  -- where it does not read w,
  pub soonest_no : reads (at ops n) w ≡ false → soonest (take n ops) w ≡ soonest (take (n + 1) ops) w
  soonest_no e = sym (soonest_more ops w n h ∙ cond-false (reads (at ops n) w) _ _ e)

  pub last_no : (held : Option ℕ) → LastRead ops n w held → reads (at ops n) w ≡ false → LastRead ops (n + 1) w held
  last_no = last_same ops w n

  -- and where it does
  module _ (e : reads (at ops n) w ≡ true) where
    pub soonest_yes : (finish : ℕ) → finish ≡ soonest (take n ops) w → min (at ops n).finish finish ≡ soonest (take (n + 1) ops) w
    soonest_yes finish so_far = ap (min (at ops n).finish) so_far ∙ sym (soonest_more ops w n h ∙ cond-true (reads (at ops n) w) _ _ e)

    pub last_yes : (held : Option ℕ) → LastRead ops n w held → LastRead ops (n + 1) w (Some (later held (at ops n).start))
    last_yes None l = ((n, omega arith, e, refl), λ p h f. go p h f (cases_eq p n))
      where
        go : (p : ℕ) → p < n + 1 → reads (at ops p) w ≡ true → ((p ≡ n) ⊎ (p ≡ n → ⊥)) → (at ops p).start ≤ (at ops n).start
        go p h f (inl s) = omega (arith, ap (λ x. (at ops x).start) s)
        go p h f (inr d) = absurd (both_ways _ (l p (omega arith)) f)
    last_yes (Some last) l = go (leb (at ops n).start last) refl
      where
        go : (t : Bool) → leb (at ops n).start last ≡ t → LastRead ops (n + 1) w (Some (cond t last (at ops n).start))
        go true t = ((l.0.0, omega (arith, l.0.1), l.0.2, l.0.3), λ p h f. at_most p h f (cases_eq p n))
          where
            at_most : (p : ℕ) → p < n + 1 → reads (at ops p) w ≡ true → ((p ≡ n) ⊎ (p ≡ n → ⊥)) → (at ops p).start ≤ last
            at_most p h f (inl s) = omega (arith, ap (λ x. (at ops x).start) s, leb-true (at ops n).start last t)
            at_most p h f (inr d) = l.1 p (omega arith) f
        go false t = ((n, omega arith, e, refl), λ p h f. at_most p h f (cases_eq p n))
          where
            at_most : (p : ℕ) → p < n + 1 → reads (at ops p) w ≡ true → ((p ≡ n) ⊎ (p ≡ n → ⊥)) → (at ops p).start ≤ (at ops n).start
            at_most p h f (inl s) = omega (arith, ap (λ x. (at ops x).start) s)
            at_most p h f (inr d) = omega (arith, l.1 p (omega arith) f, leb-false (at ops n).start last t)
