-- The lines of an account, one call after the other. Assumes nothing.
use Rattle.std.proofs.Common.{◌≡◌, ℕ, zero, suc, ◌+◌, ◌<◌, ◌≤◌, ◌⊎◌, inl, inr, List, [], ◌∷◌, ◌++◌, length, get_or, take, drop, codes, sym, refl, ap, ◌∙◌, append_assoc, append-nil, add-one, arith}
use Rattle.replaying.specs.Scripts.{Answer}
use Rattle.replaying.specs.declared.call.Call.{Call}
use Rattle.replaying.specs.Words.{call_words}
use Rattle.scripts.specs.Accounts.{line_words, lines_words, stop_words}

module _ {V : Type 0} (words : V → List ℕ) where
  no_answers : (calls : List (Call V)) → lines_words words calls [] ≡ []
  no_answers [] = refl
  no_answers (call ∷ calls) = refl

  -- no line is left where no call or no answer is
  pub no_lines : (calls : List (Call V)) (answers : List Answer) → (calls ≡ []) ⊎ (answers ≡ []) → lines_words words calls answers ≡ []
  no_lines calls answers (inl none) = ap (λ xs. lines_words words xs answers) none
  no_lines calls answers (inr none) = ap (lines_words words calls) none ∙ no_answers calls

  -- the line of one answer more
  lines_push : (calls : List (Call V)) (answers : List Answer) (i : ℕ) (c : Call V) (a : Answer) → i < length calls → i < length answers → lines_words words calls (take (suc i) answers) ≡ lines_words words calls (take i answers) ++ line_words words (get_or calls i c) (get_or answers i a)
  lines_push [] answers i c a m n = absurd (omega arith)
  lines_push (x ∷ calls) [] i c a m n = absurd (omega arith)
  lines_push (x ∷ calls) (y ∷ answers) zero c a m n = ap (λ text. line_words words x y ++ text) (no_answers calls) ∙ append-nil (line_words words x y)
  lines_push (x ∷ calls) (y ∷ answers) (suc i) c a m n =
      ap (λ text. line_words words x y ++ text) (lines_push calls answers i c a (omega arith) (omega arith))
      ∙ sym (append_assoc (line_words words x y) (lines_words words calls (take i answers)) (line_words words (get_or calls i c) (get_or answers i a)))

  pub lines_more : (calls : List (Call V)) (answers : List Answer) (i : ℕ) (c : Call V) (a : Answer) → i < length calls → i < length answers → lines_words words calls (take (i + 1) answers) ≡ lines_words words calls (take i answers) ++ line_words words (get_or calls i c) (get_or answers i a)
  lines_more calls answers i c a m n = ap (λ k. lines_words words calls (take k answers)) (add-one i) ∙ lines_push calls answers i c a m n

  -- an answer past the calls has no line
  lines_end : (calls : List (Call V)) (answers : List Answer) (i : ℕ) → length calls ≤ i → lines_words words calls (take (suc i) answers) ≡ lines_words words calls (take i answers)
  lines_end [] answers i m = refl
  lines_end (x ∷ calls) [] zero m = refl
  lines_end (x ∷ calls) [] (suc i) m = refl
  lines_end (x ∷ calls) (y ∷ answers) zero m = absurd (omega arith)
  lines_end (x ∷ calls) (y ∷ answers) (suc i) m = ap (λ text. line_words words x y ++ text) (lines_end calls answers i (omega arith))

  pub lines_same : (calls : List (Call V)) (answers : List Answer) (i : ℕ) → length calls ≤ i → lines_words words calls (take (i + 1) answers) ≡ lines_words words calls (take i answers)
  lines_same calls answers i m = ap (λ k. lines_words words calls (take k answers)) (add-one i) ∙ lines_end calls answers i m

  -- the first call that was not made
  pub stop_at : (calls : List (Call V)) (i : ℕ) (c : Call V) → i < length calls → stop_words words (drop i calls) ≡ codes "stopped at " ++ (call_words words (get_or calls i c) ++ codes "\n")
  stop_at [] i c m = absurd (omega arith)
  stop_at (x ∷ calls) zero c m = refl
  stop_at (x ∷ calls) (suc i) c m = stop_at calls i c (omega arith)

  pub no_stop : (calls : List (Call V)) (i : ℕ) → length calls ≤ i → stop_words words (drop i calls) ≡ []
  no_stop [] zero m = refl
  no_stop [] (suc i) m = refl
  no_stop (x ∷ calls) zero m = absurd (omega arith)
  no_stop (x ∷ calls) (suc i) m = no_stop calls i (omega arith)
