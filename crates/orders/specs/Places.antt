-- Sequences of places, and counting over places. A place is a number below the length of a list. Assumes nothing.
use Rattle.std.specs.Prelude.{ℕ, zero, suc, ◌+◌, ◌<◌, max, Bool, true, false, cond, ◌&&◌, ◌||◌, List, [], ◌∷◌, ◌==◌}

-- 1 for a passed test, 0 for a failed one
abbrev pub bit : Bool → ℕ
bit b = cond b 1 0

-- the sum of f over the places below n
abbrev pub total : ℕ → (ℕ → ℕ) → ℕ
total zero f = 0
total (suc n) f = f n + total n f

-- how many places below n pass the test
abbrev pub tally : ℕ → (ℕ → Bool) → ℕ
tally n f = total n (λ p. bit (f p))

-- the largest of f over the places below n, 0 where there is none
abbrev pub top : ℕ → (ℕ → ℕ) → ℕ
top zero f = 0
top (suc n) f = max (f n) (top n f)

-- every place below n passes the test
abbrev pub every : ℕ → (ℕ → Bool) → Bool
every zero f = true
every (suc n) f = f n && every n f

-- some place below n passes the test
abbrev pub some : ℕ → (ℕ → Bool) → Bool
some zero f = false
some (suc n) f = f n || some n f

-- how often a sequence of places holds p
abbrev pub times : ℕ → List ℕ → ℕ
times p [] = 0
times p (x ∷ xs) = bit (x == p) + times p xs

-- where p first stands in a sequence of places; the sequence's length if nowhere
abbrev pub position : List ℕ → ℕ → ℕ
position [] p = 0
position (x ∷ xs) p = cond (x == p) 0 (suc (position xs p))

-- a stands earlier than b
abbrev pub Earlier : List ℕ → ℕ → ℕ → Type 0
Earlier order a b = position order a < position order b
