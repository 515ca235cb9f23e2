-- One number more of a text. Assumes nothing.
use Rattle.std.proofs.Common.{◌≡◌, ℕ, ◌+◌, ◌<◌, List, [], ◌∷◌, ◌++◌, length, get_or, take, codes, decimal, sym, ap, ◌∙◌, append_assoc, append-nil}
use Rattle.std.proofs.lemmas.List.{take_more}
use Rattle.replaying.specs.Words.{numbers_words}

push_number : (ns : List ℕ) (n : ℕ) → numbers_words (ns ++ (n ∷ [])) ≡ numbers_words ns ++ (codes " " ++ decimal n)
push_number [] n = append-nil (codes " " ++ decimal n)
push_number (m ∷ ns) n = ap (λ text. (codes " " ++ decimal m) ++ text) (push_number ns n) ∙ sym (append_assoc (codes " " ++ decimal m) (numbers_words ns) (codes " " ++ decimal n))

pub numbers_more : (ns : List ℕ) (i d : ℕ) → i < length ns → numbers_words (take (i + 1) ns) ≡ numbers_words (take i ns) ++ (codes " " ++ decimal (get_or ns i d))
numbers_more ns i d within = ap numbers_words (take_more ns i d within) ∙ push_number (take i ns) (get_or ns i d)
