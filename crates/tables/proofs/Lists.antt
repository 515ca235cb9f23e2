-- One word more of a list of bays. Assumes nothing.
use Rattle.std.proofs.Common.{◌≡◌, ℕ, ◌+◌, ◌*◌, ◌/◌, ◌%◌, ◌≤◌, cond, eqb, leb, List, length, Some, None, Option, Result, ap, ◌∙◌, subst, arith, eq-eqb, ne_eqb, le-leb}
use Rattle.operations.specs.Checks.{first_failed, each_below}
use Rattle.operations.specs.declared.refusal.Layer.TheVariants as layer
use Rattle.operations.specs.declared.refusal.Refusal.{Refusal}
use Rattle.operations.specs.Refusals.{refusal}
use Rattle.operations.proofs.Checks.{each_failed, two_passed}
use Rattle.words.specs.declared.refusal.WrongKind.{WrongKind}
use Rattle.tables.specs.Lists.{bay_checks, list_checks}
use Rattle.words.specs.Reading.{HandedBay}
use Rattle.words.specs.Words.{word, kind}

-- what the reader handed out, at the file and the word where it stood
pub bay_here : (bs file : List ℕ) (w i w' : ℕ) (r : Result (Option ℕ) WrongKind) → bs ≡ file → w ≡ i → HandedBay bs w w' r → HandedBay file i w' r
bay_here bs file w i w' r same place h = subst (λ (l : List ℕ). HandedBay l i w' r) same (subst (λ (v : ℕ). HandedBay bs v w' r) place h)

module _ (bytes : List ℕ) where
  pub bay_passes : (i : ℕ) → kind (word bytes i) ≡ 0 → first_failed (bay_checks bytes i) ≡ None
  bay_passes i h = ap (λ b. cond b None (Some (refusal 3 i layer.WordsInList))) (eq-eqb (kind (word bytes i)) 0 h)

  pub bay_fails : (i : ℕ) → (kind (word bytes i) ≡ 0 → ⊥) → first_failed (bay_checks bytes i) ≡ Some (refusal 3 i layer.WordsInList)
  bay_fails i h = ap (λ b. cond b None (Some (refusal 3 i layer.WordsInList))) (ne_eqb (kind (word bytes i)) 0 h)

  module _ (short : length bytes ≤ 2048) (even : length bytes % 4 ≡ 0) where
    -- a file of whole words, and not too many, is left to its words
    whole_words : first_failed (list_checks bytes) ≡ first_failed (each_below (length bytes / 4) (bay_checks bytes))
    whole_words = two_passed (leb (length bytes) 2048) (eqb (length bytes % 4) 0) (refusal 1 512 layer.List) (refusal 2 (length bytes) layer.List) (each_below (length bytes / 4) (bay_checks bytes)) (le-leb (length bytes) 2048 short) (eq-eqb (length bytes % 4) 0 even)

    pub list_fails : (i : ℕ) (e : Refusal) → 4 * i + 4 ≤ length bytes → first_failed (each_below i (bay_checks bytes)) ≡ None → first_failed (bay_checks bytes i) ≡ Some e → first_failed (list_checks bytes) ≡ Some e
    list_fails i e lt h k = whole_words ∙ each_failed (bay_checks bytes) (length bytes / 4) i e (omega arith) h k

    pub list_passes : (n : ℕ) → 4 * n ≡ length bytes → first_failed (each_below n (bay_checks bytes)) ≡ None → first_failed (list_checks bytes) ≡ None
    list_passes n e h = let same : length bytes / 4 ≡ n = omega arith in whole_words ∙ ap (λ m. first_failed (each_below m (bay_checks bytes))) same ∙ h
