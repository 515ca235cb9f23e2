-- A sequence of places by its indices: how often it holds a place, where, and how long it is.
use Rattle.std.proofs.Common.{◌≡◌, ℕ, zero, suc, ◌<◌, ◌≤◌, List, [], ◌∷◌, length, get_or, sym, refl, ap, ◌∙◌, subst, ⊎_elim, arith}
use Rattle.std.proofs.lemmas.Bool.{cases_eq, eq-eqb, ne_eqb}
use Rattle.orders.specs.Places.{bit, total, times, position}
use Rattle.orders.proofs.Sequences.{position_in}

-- no two entries are equal
abbrev pub Diff : List ℕ → Type 0
Diff l = (i j : ℕ) → i < j → j < length l → get_or l i 0 ≡ get_or l j 0 → ⊥

pub diff_tail : (x : ℕ) (xs : List ℕ) → Diff (x ∷ xs) → Diff xs
diff_tail x xs d i j l h e = d (suc i) (suc j) (omega arith) (omega arith) e

pub at_position : (l : List ℕ) (p : ℕ) → 0 < times p l → get_or l (position l p) 0 ≡ p
at_position [] p = λ h. absurd (omega arith)
at_position (x ∷ xs) p =
    let more = at_position xs p in
    ⊎_elim (λ e. rw (eq-eqb x p e) (λ h. e)) (λ ne. rw (ne_eqb x p ne) (λ h. more (omega arith))) (cases_eq x p)

pub times_at : (l : List ℕ) (j : ℕ) → j < length l → 0 < times (get_or l j 0) l
times_at [] j h = absurd (omega arith)
times_at (x ∷ xs) zero h = omega (arith, ap bit (eq-eqb x x refl))
times_at (x ∷ xs) (suc j) h = let more = times_at xs j (omega arith) in omega arith

-- an entry is the first of its kind where no two are equal
pub position_at : (l : List ℕ) (j : ℕ) → Diff l → j < length l → position l (get_or l j 0) ≡ j
position_at [] j d h = absurd (omega arith)
position_at (x ∷ xs) zero d h = rw (eq-eqb x x refl)
position_at (x ∷ xs) (suc j) d h =
    rw (ne_eqb x (get_or xs j 0) (d zero (suc j) (omega arith) h)) (ap suc (position_at xs j (diff_tail x xs d) (omega arith)))

pub different_once : (l : List ℕ) (p : ℕ) → Diff l → times p l ≤ 1
different_once [] p d = omega arith
different_once (x ∷ xs) p d =
    let more = different_once xs p (diff_tail x xs d) in
    ⊎_elim
    (λ e. rw (eq-eqb x p e) (⊎_elim (λ none. omega arith) (λ some. absurd (again e (omega arith))) (cases_eq (times p xs) 0)))
    (λ ne. rw (ne_eqb x p ne) (omega arith))
    (cases_eq x p)
  where
    again : x ≡ p → 0 < times p xs → ⊥
    again e h = let i = position_in xs p h in d zero (suc (position xs p)) (omega arith) (omega arith) (e ∙ sym (at_position xs p h))

pub once_different : (l : List ℕ) → ((p : ℕ) → times p l ≤ 1) → Diff l
once_different [] h i j l m e = omega arith
once_different (x ∷ xs) h zero zero l m e = omega arith
once_different (x ∷ xs) h zero (suc j) l m e =
    omega (arith, h x, ap bit (eq-eqb x x refl), subst (λ y. 0 < times y xs) (sym e) (times_at xs j (omega arith)))
once_different (x ∷ xs) h (suc i) zero l m e = omega arith
once_different (x ∷ xs) h (suc i) (suc j) l m e = once_different xs (λ p. omega (arith, h p)) i j (omega arith) (omega arith) e

pub total_few : (n : ℕ) (f : ℕ → ℕ) → ((p : ℕ) → f p ≤ 1) → total n f ≤ n
total_few zero f h = omega arith
total_few (suc n) f h = let more = total_few n f h in omega (arith, h n)

pub total_ones : (n : ℕ) (f : ℕ → ℕ) → ((p : ℕ) → f p ≤ 1) → ((p : ℕ) → p < n → 0 < f p) → total n f ≡ n
total_ones zero f h all = refl
total_ones (suc n) f h all = let more = total_ones n f h (λ p l. all p (omega arith)) in omega (arith, h n, all n (omega arith))

pub ones_total : (n : ℕ) (f : ℕ → ℕ) → ((p : ℕ) → f p ≤ 1) → total n f ≡ n → (p : ℕ) → p < n → 0 < f p
ones_total zero f h e p l = absurd (omega arith)
ones_total (suc n) f h e p l =
    let few = total_few n f h in
    let one = h n in
    ⊎_elim (λ s. subst (λ q. 0 < f q) (sym s) (omega arith)) (λ ne. ones_total n f h (omega arith) p (omega arith)) (cases_eq p n)
