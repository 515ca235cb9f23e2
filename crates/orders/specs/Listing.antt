-- The run-ups of a graph listed by depth first, and what trying k = 1, 2, 3 and so on computes from the listing. The writes are places below n. Assumes nothing.
use Rattle.std.specs.Prelude.{◌≡◌, ℕ, zero, suc, ◌+◌, ◌-◌, ◌<◌, Bool, true, cond, not, ◌&&◌, ◌||◌, ltb, List, [], ◌∷◌, ◌++◌, length, ◌==◌, nat_le, nat_lt}
use Rattle.orders.specs.Places.{tally, every, times, position}
use Rattle.orders.specs.RunUps.{Graph}

-- every write is a place below n
abbrev pub Below : Graph → ℕ → Type 0
Below g n = (p : ℕ) → g.write p ≡ true → p < n

-- p may stand next behind a run-up, or behind nothing
abbrev pub grows : Graph → ℕ → ℕ → List ℕ → ℕ → Bool
grows g n k run p = g.write p && (times p run == 0 && (every n (λ u. not (g.write u && g.write_edge u p) || nat_lt 0 (times u run)) && every n (λ v. not (nat_lt 0 (times v run) && g.read_edge p v) || nat_le (length run) (position run v + (k - 1)))))

-- one list after another, for so many places from p on
abbrev pub over : ℕ → ℕ → (ℕ → List (List ℕ)) → List (List ℕ)
over zero p f = []
over (suc more) p f = f p ++ over more (suc p) f

-- the run-ups that go on from a sequence by at most so many places
abbrev pub extend : Graph → ℕ → ℕ → ℕ → List ℕ → List (List ℕ)
extend g n k zero run = []
extend g n k (suc more) run = over n 0 (λ p. (let longer = run ++ (p ∷ []) in let rest = longer ∷ extend g n k more longer in cond (grows g n k run p) rest []))

-- all run-ups for k
abbrev pub run_ups : Graph → ℕ → ℕ → List (List ℕ)
run_ups g n k = extend g n k n []

-- those up to and including the first of so many places
abbrev pub until : ℕ → List (List ℕ) → List (List ℕ)
until many [] = []
until many (x ∷ xs) = let rest = until many xs in x ∷ cond (length x == many) [] rest

-- the first of so many places, [] if there is none
abbrev pub first_of : ℕ → List (List ℕ) → List ℕ
first_of many [] = []
first_of many (x ∷ xs) = let rest = first_of many xs in cond (length x == many) x rest

-- the trials for k
abbrev pub trials : Graph → ℕ → ℕ → ℕ
trials g n k = length (until (tally n g.write) (run_ups g n k))

-- the first value order for k, [] if there is none
abbrev pub first_order : Graph → ℕ → ℕ → List ℕ
first_order g n k = first_of (tally n g.write) (run_ups g n k)

-- the first from k on that passes, where so many are tried
abbrev pub first_from : (ℕ → Bool) → ℕ → ℕ → ℕ
first_from f zero k = k
first_from f (suc more) k = let later = first_from f more (suc k) in cond (f k) k later

-- the trials for 1, 2 and so on up to k, added
abbrev pub trials_up_to : Graph → ℕ → ℕ → ℕ
trials_up_to g n zero = 0
trials_up_to g n (suc k) = trials_up_to g n k + trials g n (suc k)

-- what trying finds: the k, where at most as many are tried as there are writes,
abbrev pub tried_age : Graph → ℕ → ℕ
tried_age g n = first_from (λ k. ltb 0 (length (first_order g n k))) (tally n g.write) 1

-- all trials,
abbrev pub tried_trials : Graph → ℕ → ℕ
tried_trials g n = trials_up_to g n (tried_age g n)

-- and the value order
abbrev pub tried_order : Graph → ℕ → List ℕ
tried_order g n = first_order g n (tried_age g n)
