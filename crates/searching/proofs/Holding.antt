-- What a list of sequences holds.
use Rattle.std.proofs.Common.{◌≡◌, ℕ, ◌⊎◌, List, [], ◌∷◌, ◌++◌, map, refl, ap, inl, inr, ⊎_elim}
use Rattle.orders.specs.RunUps.{In}

pub in_append : (q : List ℕ) (xs ys : List (List ℕ)) → In q (xs ++ ys) → In q xs ⊎ In q ys
in_append q [] ys m = inr m
in_append q (x ∷ xs) ys m = ⊎_elim (λ e. inl (inl e)) (λ r. ⊎_elim (λ l. inl (inr l)) (λ t. inr t) (in_append q xs ys r)) m

pub in_left : (q : List ℕ) (xs ys : List (List ℕ)) → In q xs → In q (xs ++ ys)
in_left q [] ys m = absurd m
in_left q (x ∷ xs) ys m = ⊎_elim (λ e. inl e) (λ r. inr (in_left q xs ys r)) m

pub in_right : (q : List ℕ) (xs ys : List (List ℕ)) → In q ys → In q (xs ++ ys)
in_right q [] ys m = m
in_right q (x ∷ xs) ys m = inr (in_right q xs ys m)

pub in_mapped : (f : List ℕ → List ℕ) (l : List (List ℕ)) (q : List ℕ) → In q (map f l) → (r : List ℕ) × In r l × (q ≡ f r)
in_mapped f [] q m = absurd m
in_mapped f (x ∷ xs) q m = ⊎_elim (λ is. (x, inl refl, is)) (λ y. let t = in_mapped f xs q y in (t.0, inr t.1, t.2)) m

pub mapped_in : (f : List ℕ → List ℕ) (l : List (List ℕ)) (r : List ℕ) → In r l → In (f r) (map f l)
mapped_in f [] r m = absurd m
mapped_in f (x ∷ xs) r m = ⊎_elim (λ is. inl (ap f is)) (λ y. inr (mapped_in f xs r y)) m
