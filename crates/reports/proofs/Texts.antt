-- One line more, and the lines of bays. Assumes nothing.
use Rattle.std.proofs.Common.{◌≡◌, ℕ, zero, suc, ◌+◌, ◌<◌, Bool, true, false, cond, List, [], ◌∷◌, ◌++◌, map, length, take, Some, None, codes, decimal, MatchOption, Option, inl, inr, sym, refl, ap, ◌∙◌, append_assoc, append-nil, add-zero, add-one, arith, length-append}
use Rattle.std.specs.List.{slice_get}
use Rattle.std.proofs.lemmas.Bool.{cases_order}
use Rattle.std.proofs.lemmas.List.{map-append, length-map, take_more, length-take-le}
use Rattle.operations.specs.declared.row.Row.{Row}
use Rattle.operations.proofs.Places.{nth_within, nth_is}
use Rattle.reports.specs.Accounts.{bays_words, or_none, row_words, rows_words, told_words}

module _ {V : Type 0} (words : V → List ℕ) where
  -- one line more
  pub push_words : (i : ℕ) (xs : List (Row V)) (x : Row V) → rows_words words i (xs ++ (x ∷ [])) ≡ rows_words words i xs ++ row_words words (i + length xs) x
  push_words i [] x = append-nil (row_words words i x) ∙ ap (λ n. row_words words n x) (sym (add-zero i))
  push_words i (y ∷ xs) x =
      let places : i + 1 + length xs ≡ i + suc (length xs) = omega arith in
      ap (λ zs. row_words words i y ++ zs) (push_words (i + 1) xs x ∙ ap (λ n. rows_words words (i + 1) xs ++ row_words words n x) places)
      ∙ sym (append_assoc (row_words words i y) (rows_words words (i + 1) xs) (row_words words (i + suc (length xs)) x))

  -- the lines of one operation more
  pub rows_more : (xs : List (Row V)) (i : ℕ) (x : Row V) → slice_get xs i ≡ Some x → rows_words words 0 (take (i + 1) xs) ≡ rows_words words 0 (take i xs) ++ row_words words i x
  rows_more xs i x e =
      let lt = nth_within xs i x e in
      ap (rows_words words 0) (take_more xs i x lt ∙ ap (λ y. take i xs ++ (y ∷ [])) (nth_is xs i x x e))
      ∙ push_words 0 (take i xs) x
      ∙ ap (λ n. rows_words words 0 (take i xs) ++ row_words words n x) (let long = length-take-le i xs (omega arith) in omega arith)

  -- one line more behind those of numbered rows
  pub line_more : {P : Type 0} (told : P → Row V) (ps : List P) (p : P) (place : ℕ) (row : Row V) → place ≡ length ps → row ≡ told p → rows_words words 0 (map told ps) ++ row_words words place row ≡ rows_words words 0 (map told (ps ++ (p ∷ [])))
  line_more told ps p place row at is =
      let long : place ≡ 0 + length (map told ps) = omega (arith, at, length-map ps told) in
      ap (λ n. rows_words words 0 (map told ps) ++ row_words words n row) long ∙ ap (λ r. rows_words words 0 (map told ps) ++ row_words words (0 + length (map told ps)) r) is
      ∙ sym (push_words 0 (map told ps) (told p)) ∙ ap (rows_words words 0) (sym (map-append told ps (p ∷ [])))

pub bays_none : (p : ℕ → Bool) → bays_words p 0 ≡ []
unfolding bays_words
bays_none p = refl

-- one bay more, which is left out or not
pub bays_more : (p : ℕ → Bool) (n : ℕ) → bays_words p (n + 1) ≡ bays_words p n ++ cond (p n) (codes " " ++ decimal n) []
unfolding bays_words
bays_more p n = ap (bays_words p) (add-one n)

-- two tests that agree name the same bays
pub bays_same : (p q : ℕ → Bool) (n : ℕ) → ((b : ℕ) → b < n → p b ≡ q b) → bays_words p n ≡ bays_words q n
unfolding bays_words
bays_same p q zero h = refl
bays_same p q (suc n) h =
    let rest = bays_same p q n (λ b lt. h b (omega arith)) in
    let here = h n (omega arith) in
    ap (λ xs. xs ++ cond (p n) (codes " " ++ decimal n) []) rest ∙ ap (λ b. bays_words q n ++ cond b (codes " " ++ decimal n) []) here

-- an account is known by the number of records, the bays left out and the kept operations
pub told_same : {V : Type 0} (words : V → List ℕ) (m n : ℕ) (p q : ℕ → Bool) (xs ys : List (Row V)) → m ≡ n → bays_words p 64 ≡ bays_words q 64 → xs ≡ ys → told_words words m p xs ≡ told_words words n q ys
told_same words m n p q xs ys records bays rows = cc

-- a word for none stands exactly where nothing is named
pub nothing_named : (cs : List ℕ) → length cs ≡ 0 → or_none cs ≡ codes " none"
nothing_named [] h = refl
nothing_named (c ∷ cs) h = absurd (omega arith)

pub something_named : (cs : List ℕ) → (length cs ≡ 0 → ⊥) → or_none cs ≡ cs
something_named [] h = absurd (h refl)
something_named (c ∷ cs) h = refl

-- and of bays exactly where no bay is named
pub none_named : (p : ℕ → Bool) (n : ℕ) → ((b : ℕ) → b < n → p b ≡ false) → or_none (bays_words p n) ≡ codes " none"
unfolding bays_words
none_named p n h = ap or_none (bays_same p (λ b. false) n h ∙ nothing n)
  where
    nothing : (m : ℕ) → bays_words (λ b. false) m ≡ []
    nothing zero = refl
    nothing (suc m) = append-nil (bays_words (λ b. false) m) ∙ nothing m

longer : (p : ℕ → Bool) (n b : ℕ) → b < n → p b ≡ true → 0 < length (bays_words p n)
unfolding bays_words
longer p zero b lt e = absurd (omega arith)
longer p (suc n) b lt e =
    let l = length-append (bays_words p n) (cond (p n) (codes " " ++ decimal n) []) in
    elim (cases_order b n) [
      | inl same ↦
          let here : p n ≡ true = ap p (sym same) ∙ e in
          let k = ap (λ (t : Bool). length (cond t (codes " " ++ decimal n) [])) here in
          omega arith
      | inr other ↦ let h = longer p n b (omega arith) e in omega arith
    ]

pub some_named : (p : ℕ → Bool) (n b : ℕ) → b < n → p b ≡ true → or_none (bays_words p n) ≡ bays_words p n
some_named p n b lt e = something_named (bays_words p n) (λ none. absurd (omega (arith, longer p n b lt e)))

-- what is weaker in each case is weaker
pub weaker : {T P P' : Type 0} {Q Q' : T → Type 0} (o : Option T) → (P → P') → ((x : T) → Q x → Q' x) → MatchOption o P Q → MatchOption o P' Q'
weaker None f g h = f h
weaker (Some x) f g h = g x h
