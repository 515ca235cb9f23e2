-- The trials for k, the first value order for k, and what trying comes to, are unique. Assumes nothing.
use Rattle.std.proofs.Common.{◌≡◌, ℕ, zero, suc, ◌<◌, ◌⊎◌, List, [], ◌∷◌, length, sym, refl, ap, ◌∙◌, ap₂, inl, inr, arith}
use Rattle.std.proofs.lemmas.Bool.{cases_order}
use Rattle.orders.specs.RunUps.{Graph, Comes, In, Ascending, TrialsUpTo}
use Rattle.orders.specs.Claims.{TrialsAreUnique, FirstIsUnique, TriedIsUnique}

-- of two sequences, not each comes before the other
pub comes_once : (x y : List ℕ) → Comes x y → Comes y x → ⊥
comes_once [] [] a b = a
comes_once [] (y ∷ ys) a b = b
comes_once (x ∷ xs) [] a b = a
comes_once (x ∷ xs) (y ∷ ys) (inl a) (inl b) = omega arith
comes_once (x ∷ xs) (y ∷ ys) (inl a) (inr b) = omega (arith, b.0)
comes_once (x ∷ xs) (y ∷ ys) (inr a) (inl b) = omega (arith, a.0)
comes_once (x ∷ xs) (y ∷ ys) (inr a) (inr b) = comes_once xs ys a.1 b.1

-- none comes before itself
pub comes_self : (x y : List ℕ) → x ≡ y → Comes x y → ⊥
comes_self x y e c = let d : Comes x x = rw (sym e) at c in comes_once x x d d

-- of two sequences, one comes before the other, or they are one
pub comes_either : (x y : List ℕ) → (x ≡ y) ⊎ (Comes x y ⊎ Comes y x)
comes_either [] [] = inl refl
comes_either [] (y ∷ ys) = inr (inl tt)
comes_either (x ∷ xs) [] = inr (inr tt)
comes_either (x ∷ xs) (y ∷ ys) = go (cases_order x y) (comes_either xs ys)
  where
    go : ((x ≡ y) ⊎ ((x < y) ⊎ (y < x))) → ((xs ≡ ys) ⊎ (Comes xs ys ⊎ Comes ys xs)) → (x ∷ xs ≡ y ∷ ys) ⊎ (Comes (x ∷ xs) (y ∷ ys) ⊎ Comes (y ∷ ys) (x ∷ xs))
    go (inr (inl l)) t = inr (inl (inl l))
    go (inr (inr l)) t = inr (inr (inl l))
    go (inl e) (inl s) = inl (cc)
    go (inl e) (inr (inl c)) = inr (inl (inr (e, c)))
    go (inl e) (inr (inr c)) = inr (inr (inr (sym e, c)))

-- two ascending lists with the same members are one
ascending_same : (l m : List (List ℕ)) → Ascending l → Ascending m → ((x : List ℕ) → In x l → In x m) → ((x : List ℕ) → In x m → In x l) → l ≡ m
ascending_same [] [] a b f h = refl
ascending_same [] (y ∷ m) a b f h = elim (h y (inl refl)) [ ]
ascending_same (x ∷ l) [] a b f h = elim (f x (inl refl)) [ ]
ascending_same (x ∷ l) (y ∷ m) a b f h = ap₂ (λ (z : List ℕ) (r : List (List ℕ)). z ∷ r) same (ascending_same l m a.1 b.1 (λ z i. tail x y m z (sym same) (a.0 z i) (f z (inr i))) (λ z i. tail y x l z same (b.0 z i) (h z (inr i))))
  where
    head : (x ≡ y) ⊎ In x m → (y ≡ x) ⊎ In y l → x ≡ y
    head (inl e) j = e
    head (inr i) (inl e) = sym e
    head (inr i) (inr j) = absurd (comes_once x y (a.0 y j) (b.0 x i))

    same : x ≡ y
    same = head (f x (inl refl)) (h y (inl refl))

    tail : (s t : List ℕ) (r : List (List ℕ)) (z : List ℕ) → t ≡ s → Comes s z → (z ≡ t) ⊎ In z r → In z r
    tail s t r z e c (inl i) = absurd (comes_self s z (sym (i ∙ e)) c)
    tail s t r z e c (inr i) = i

-- the trials for k are one number
pub trials_are_unique : TrialsAreUnique
trials_are_unique g k c d s t =
    sym s.number
    ∙ ap length (ascending_same s.listed t.listed s.ascending t.ascending
    (λ x i. let u = s.only x i in t.all x u.0 u.1)
    (λ x i. let u = t.only x i in s.all x u.0 u.1))
    ∙ t.number

-- the first value order for k is one sequence
pub first_is_unique : FirstIsUnique
first_is_unique g k run other f h = go (comes_either run other)
  where
    go : (run ≡ other) ⊎ (Comes run other ⊎ Comes other run) → run ≡ other
    go (inl e) = e
    go (inr (inl c)) = absurd (h.unbeaten run f.order c)
    go (inr (inr c)) = absurd (f.unbeaten other h.order c)

-- the trials up to k are one number
pub trials_up_to_unique : (g : Graph) (k c d : ℕ) → TrialsUpTo g k c → TrialsUpTo g k d → c ≡ d
trials_up_to_unique g zero c d s t = s ∙ sym t
trials_up_to_unique g (suc k) c d s t = omega (arith, s.4, t.4, trials_up_to_unique g k s.0 t.0 s.2 t.2, trials_are_unique g (suc k) s.1 t.1 s.3 t.3)

-- trying comes to one outcome
pub tried_is_unique : TriedIsUnique
tried_is_unique g k j c d run other s t = go (cases_order k j)
  where
    go : ((k ≡ j) ⊎ ((k < j) ⊎ (j < k))) → (k ≡ j) × (c ≡ d) × (run ≡ other)
    go (inl e) = (e, trials_up_to_unique g j c d (rw e at s.trials) t.trials, first_is_unique g j run other (rw e at s.first) t.first)
    go (inr (inl l)) = absurd (t.none_below k s.from_one l run s.first.order)
    go (inr (inr l)) = absurd (s.none_below j t.from_one l other t.first.order)
