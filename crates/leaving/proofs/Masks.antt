-- One more bay of a list. Assumes nothing.
use Rattle.std.proofs.Common.{◌≡◌, ℕ, zero, suc, ◌+◌, ◌<◌, ◌≤◌, Bool, true, false, ◌||◌, eqb, List, [], ◌∷◌, length, get_or, take, sym, refl, ap, ◌∙◌, add-one, arith}
use Rattle.masks.specs.Masks.{Added}
use Rattle.leaving.specs.Leaving.{lists, MaskOf}

or_swap : (a b c : Bool) → ((a || b) || c) ≡ ((a || c) || b)
or_swap true b c = refl
or_swap false true true = refl
or_swap false true false = refl
or_swap false false true = refl
or_swap false false false = refl

lists_more : (xs : List ℕ) (i b : ℕ) → i < length xs → lists (take (i + 1) xs) b ≡ (lists (take i xs) b || eqb (get_or xs i 0) b)
lists_more [] i b h = absurd (omega arith)
lists_more (x ∷ xs) zero b h = refl
lists_more (x ∷ xs) (suc i) b h =
    let h' : i < length xs = omega arith in
    ap (λ n. lists (take n (x ∷ xs)) b) (add-one (suc i)) ∙ ap (λ n. lists (take n xs) b || eqb x b) (sym (add-one i))
    ∙ ap (λ t. t || eqb x b) (lists_more xs i b h') ∙ or_swap (lists (take i xs) b) (eqb (get_or xs i 0) b) (eqb x b)

-- one more listed bay
pub mask_more : (xs : List ℕ) (i mask new : ℕ) → i < length xs → get_or xs i 0 ≤ 63 → MaskOf (take i xs) mask → Added mask (get_or xs i 0) new → MaskOf (take (i + 1) xs) new
mask_more xs i mask new h small m added b low =
    added.below small b ∙ ap (λ t. t || eqb (get_or xs i 0) b) (m b low) ∙ sym (lists_more xs i b h)
