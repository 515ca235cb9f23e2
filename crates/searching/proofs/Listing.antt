-- The listing holds exactly the run-ups, in ascending order.
use Rattle.std.proofs.Common.{◌≡◌, ℕ, zero, suc, ◌+◌, ◌<◌, ◌≤◌, Bool, true, false, List, [], ◌∷◌, ◌++◌, reverse, length, sym, refl, ◌∙◌, subst, subst₂, inl, inr, ⊎_elim, arith}
use mathlib.Core.List.{reverse_aux, reverse_aux-eq, reverse_aux-reverse_aux-nil}
use Rattle.std.proofs.lemmas.Bool.{cases_eq, cases_Bool}
use Rattle.orders.specs.RunUps.{Comes, In}
use Rattle.searching.proofs.Holding.{in_append, in_left, in_right}
use Rattle.searching.proofs.Enumeration.{each, below, each_skip, each_take}

-- q is p and then v, at least u, and then vs
abbrev pub Ext : List ℕ → ℕ → List ℕ → Type 0
Ext p u q = (v : ℕ) × (vs : List ℕ) × (u ≤ v) × (q ≡ reverse_aux vs (v ∷ p))

abbrev pub Ear : List ℕ → List ℕ → Type 0
Ear p q = Comes (reverse p) (reverse q)

abbrev pub Asc : List (List ℕ) → Type 0
Asc [] = Unit {0}
Asc (p ∷ ps) = ((q : List ℕ) → In q ps → Ear p q) × Asc ps

comes_ext : (a : List ℕ) (v : ℕ) (b : List ℕ) → Comes a (a ++ v ∷ b)
comes_ext [] v b = tt
comes_ext (x ∷ a) v b = inr (refl, comes_ext a v b)

comes_apart : (a : List ℕ) (v w : ℕ) (b c : List ℕ) → v < w → Comes (a ++ v ∷ b) (a ++ w ∷ c)
comes_apart [] v w b c l = inl l
comes_apart (x ∷ a) v w b c l = inr (refl, comes_apart a v w b c l)

turn : (vs p : List ℕ) → reverse (reverse_aux vs p) ≡ reverse p ++ vs
turn vs p = reverse_aux-reverse_aux-nil vs p ∙ reverse_aux-eq p vs

ear_own : (p vs : List ℕ) (v : ℕ) → Ear p (reverse_aux vs (v ∷ p))
ear_own p vs v = subst (Comes (reverse p)) (sym (turn (v ∷ vs) p)) (comes_ext (reverse p) v vs)

ear_apart : (p vs ws : List ℕ) (v w : ℕ) → v < w → Ear (reverse_aux vs (v ∷ p)) (reverse_aux ws (w ∷ p))
ear_apart p vs ws v w l = subst₂ Comes (sym (turn (v ∷ vs) p)) (sym (turn (w ∷ ws) p)) (comes_apart (reverse p) v w vs ws l)

asc_append : (xs ys : List (List ℕ)) → Asc xs → Asc ys → ((a b : List ℕ) → In a xs → In b ys → Ear a b) → Asc (xs ++ ys)
asc_append [] ys x y h = y
asc_append (a ∷ xs) ys x y h = (
  λ q m. ⊎_elim (λ l. x.0 q l) (λ r. h a q (inl refl) r) (in_append q xs ys m),
  asc_append xs ys x.1 y (λ s t l r. h s t (inr l) r),
)

module _ (n : ℕ) (ok : List ℕ → ℕ → Bool) where
  -- by the test at u
  split : (deep : List ℕ → List (List ℕ)) (p : List ℕ) (c u : ℕ) (P : List (List ℕ) → Type 0) → (ok p u ≡ true → P (((u ∷ p) ∷ deep (u ∷ p)) ++ each n ok deep p c (suc u))) → (ok p u ≡ false → P (each n ok deep p c (suc u))) → P (each n ok deep p (suc c) u)
  split deep p c u P t f =
      ⊎_elim
      (λ e. subst P (sym (each_take n ok deep p c u e)) (t e))
      (λ e. subst P (sym (each_skip n ok deep p c u e)) (f e))
      (cases_Bool (ok p u))

  each_none : (deep : List ℕ → List (List ℕ)) (p : List ℕ) (u : ℕ) → each n ok deep p zero u ≡ []
  unfolding each
  each_none deep p u = refl

  below_none : (p : List ℕ) → below n ok zero p ≡ []
  unfolding below
  below_none p = refl

  below_more : (d : ℕ) (p : List ℕ) → below n ok (suc d) p ≡ each n ok (below n ok d) p n 0
  unfolding below
  below_more d p = refl

  weaker : (p : List ℕ) (u : ℕ) (q : List ℕ) → Ext p (suc u) q → Ext p u q
  weaker p u q x = (x.0, x.1, omega (arith, x.2), x.3)

  each_ext : (deep : List ℕ → List (List ℕ)) → ((p q : List ℕ) → In q (deep p) → Ext p 0 q) → (c u : ℕ) (p q : List ℕ) → In q (each n ok deep p c u) → Ext p u q
  each_ext deep h zero u p q = λ m. absurd (subst (In q) (each_none deep p u) m)
  each_ext deep h (suc c) u p q =
      let more = each_ext deep h c (suc u) p q in
      split deep p c u (λ l. In q l → Ext p u q)
      (λ e m. ⊎_elim
      (λ l. ⊎_elim
      (λ is. (u, [], omega arith, is))
      (λ down. let x = h (u ∷ p) q down in (u, x.0 ∷ x.1, omega arith, x.3))
      l)
      (λ r. weaker p u q (more r))
      (in_append q ((u ∷ p) ∷ deep (u ∷ p)) (each n ok deep p c (suc u)) m))
      (λ e m. weaker p u q (more m))

  pub below_ext : (d : ℕ) (p q : List ℕ) → In q (below n ok d p) → Ext p 0 q
  below_ext zero p q m = absurd (subst (In q) (below_none p) m)
  below_ext (suc d) p q m = each_ext (below n ok d) (below_ext d) n 0 p q (subst (In q) (below_more d p) m)

  each_asc : (deep : List ℕ → List (List ℕ)) → ((p q : List ℕ) → In q (deep p) → Ext p 0 q) → ((p : List ℕ) → Asc (deep p)) → (c u : ℕ) (p : List ℕ) → Asc (each n ok deep p c u)
  each_asc deep h a zero u p = subst Asc (sym (each_none deep p u)) tt
  each_asc deep h a (suc c) u p =
      let more = each_asc deep h a c (suc u) p in
      split deep p c u Asc
      (λ e. asc_append ((u ∷ p) ∷ deep (u ∷ p)) (each n ok deep p c (suc u))
      (λ q m. let x = h (u ∷ p) q m in subst (Ear (u ∷ p)) (sym x.3) (ear_own (u ∷ p) x.1 x.0), a (u ∷ p))
      more
      (λ s t l r.
      let y = each_ext deep h c (suc u) p t r in
      ⊎_elim
      (λ is. subst₂ Ear (sym is) (sym y.3) (ear_apart p [] y.1 u y.0 y.2))
      (λ down. let x = h (u ∷ p) s down in subst₂ Ear (sym x.3) (sym y.3) (ear_apart p (x.0 ∷ x.1) y.1 u y.0 y.2))
      l))
      (λ e. more)

  pub below_asc : (d : ℕ) (p : List ℕ) → Asc (below n ok d p)
  below_asc zero p = subst Asc (sym (below_none p)) tt
  below_asc (suc d) p = subst Asc (sym (below_more d p)) (each_asc (below n ok d) (below_ext d) (below_asc d) n 0 p)

  module _ (G : List ℕ → Type 0) (grow : (u : ℕ) (p : List ℕ) → G p → u < n → ok p u ≡ true → G (u ∷ p)) (tail : (u : ℕ) (p : List ℕ) → G (u ∷ p) → G p) (last : (u : ℕ) (p : List ℕ) → G (u ∷ p) → (u < n) × (ok p u ≡ true)) where
    each_good : (deep : List ℕ → List (List ℕ)) → ((p q : List ℕ) → G p → In q (deep p) → G q) → (c u : ℕ) (p q : List ℕ) → G p → u + c ≤ n → In q (each n ok deep p c u) → G q
    each_good deep h zero u p q g l = λ m. absurd (subst (In q) (each_none deep p u) m)
    each_good deep h (suc c) u p q g l =
        let more = each_good deep h c (suc u) p q g (omega arith) in
        split deep p c u (λ l. In q l → G q)
        (λ e m. ⊎_elim
        (λ here.
        let own = grow u p g (omega arith) e in
        ⊎_elim (λ is. subst G (sym is) own) (λ down. h (u ∷ p) q own down) here)
        more
        (in_append q ((u ∷ p) ∷ deep (u ∷ p)) (each n ok deep p c (suc u)) m))
        (λ e m. more m)

    pub below_good : (d : ℕ) (p q : List ℕ) → G p → In q (below n ok d p) → G q
    below_good zero p q g m = absurd (subst (In q) (below_none p) m)
    below_good (suc d) p q g m = each_good (below n ok d) (below_good d) n 0 p q g (omega arith) (subst (In q) (below_more d p) m)

    before_last : (vs q : List ℕ) → G (reverse_aux vs q) → G q
    before_last [] q g = g
    before_last (v ∷ vs) q g = tail v q (before_last vs (v ∷ q) g)

    abbrev Reached : ℕ → Type 0
    Reached d = (vs : List ℕ) (v : ℕ) (p : List ℕ) → G (reverse_aux vs (v ∷ p)) → suc (length vs) ≤ d → In (reverse_aux vs (v ∷ p)) (below n ok d p)

    here : (d : ℕ) → Reached d → (vs : List ℕ) (u : ℕ) (p : List ℕ) → G (reverse_aux vs (u ∷ p)) → length vs ≤ d → In (reverse_aux vs (u ∷ p)) ((u ∷ p) ∷ below n ok d (u ∷ p))
    here d h [] u p g l = inl refl
    here d h (v ∷ vs) u p g l = inr (h vs v (u ∷ p) g l)

    each_all : (d : ℕ) → Reached d → (c u : ℕ) (vs : List ℕ) (v : ℕ) (p : List ℕ) → G (reverse_aux vs (v ∷ p)) → length vs ≤ d → u ≤ v → v < u + c → In (reverse_aux vs (v ∷ p)) (each n ok (below n ok d) p c u)
    each_all d h zero u vs v p g l a b = absurd (omega arith)
    each_all d h (suc c) u vs v p g l a b =
        ⊎_elim
        (λ e.
        let g' = subst (λ x. G (reverse_aux vs (x ∷ p))) e g in
        let yes' = (last u p (before_last vs (u ∷ p) g')).1 in
        subst (λ x. In (reverse_aux vs (x ∷ p)) (each n ok (below n ok d) p (suc c) u)) (sym e)
        (subst (In (reverse_aux vs (u ∷ p))) (sym (each_take n ok (below n ok d) p c u yes'))
        (in_left (reverse_aux vs (u ∷ p)) ((u ∷ p) ∷ below n ok d (u ∷ p)) (each n ok (below n ok d) p c (suc u)) (here d h vs u p g' l))))
        (λ ne.
        let more = each_all d h c (suc u) vs v p g l (omega arith) (omega arith) in
        split (below n ok d) p c u (In (reverse_aux vs (v ∷ p)))
        (λ e. in_right (reverse_aux vs (v ∷ p)) ((u ∷ p) ∷ below n ok d (u ∷ p)) (each n ok (below n ok d) p c (suc u)) more)
        (λ e. more))
        (cases_eq v u)

    pub below_all : (d : ℕ) → Reached d
    below_all zero vs v p g l = absurd (omega arith)
    below_all (suc d) vs v p g l =
        let lt = (last v p (before_last vs (v ∷ p) g)).0 in
        subst (In (reverse_aux vs (v ∷ p))) (sym (below_more d p)) (each_all d (below_all d) n 0 vs v p g (omega arith) (omega arith) (omega arith))
