-- A list copied one element at a time. Assumes nothing.
use Rattle.std.proofs.Common.{◌≡◌, ◌<◌, List, [], ◌∷◌, ◌++◌, length, sym, ap, ◌∙◌, append_assoc, append-nil, arith, length-append}

-- a pass: what is copied and what is still to come are the whole
module _ {X : Type 0} (copied coming whole : List X) (joined : copied ++ coming ≡ whole) where
  pub copy_more : (longer rest : List X) (x y : X) → coming ≡ x ∷ rest → y ≡ x → longer ≡ copied ++ (y ∷ []) → longer ++ rest ≡ whole
  copy_more longer rest x y c e l =
      ap (λ z. z ++ rest) (l ∙ ap (λ z. copied ++ (z ∷ [])) e) ∙ append_assoc copied (x ∷ []) rest ∙ ap (λ z. copied ++ z) (sym c) ∙ joined

  pub copy_fits : (rest : List X) (x : X) → coming ≡ x ∷ rest → length copied < length whole
  copy_fits rest x c = omega (arith, ap length joined, length-append copied coming, ap length c)

  pub copy_all : coming ≡ [] → copied ≡ whole
  copy_all c = sym (append-nil copied) ∙ ap (λ z. copied ++ z) (sym c) ∙ joined
