-- Run-ups over the writes of one bay, their order, value orders, and the trials of judging. Assumes nothing.
use Rattle.std.specs.Prelude.{◌≡◌, ℕ, zero, suc, ◌+◌, ◌-◌, ◌<◌, ◌≤◌, Bool, true, ◌⊎◌, List, [], ◌∷◌, length}
use Rattle.orders.specs.Places.{bit, times, position, Earlier}

-- the writes of a bay, by their places, and the edges between them
pub record Graph : Type 0 where
  pub write : ℕ → Bool
  pub write_edge : ℕ → ℕ → Bool
  pub read_edge : ℕ → ℕ → Bool

-- A run-up for k is a non-empty sequence of different writes of the bay. Every write with a write edge into a member stands
-- earlier in it. For a read edge from u to v with v standing before u, u is at most k - 1 positions after v.
pub record RunUp (g : Graph) (k : ℕ) (run : List ℕ) : Type 0 where
  pub some : 0 < length run
  pub once : (p : ℕ) → times p run ≤ bit (g.write p)
  pub closed : (u v : ℕ) → g.write u ≡ true → 0 < times v run → g.write_edge u v ≡ true → Earlier run u v
  pub near : (u v : ℕ) → 0 < times u run → 0 < times v run → g.read_edge u v ≡ true → Earlier run v u → position run u ≤ position run v + (k - 1)

-- A value order for k is a run-up with all writes of the bay.
pub record ValueOrder (g : Graph) (k : ℕ) (run : List ℕ) : Type 0 where
  pub run_up : RunUp g k run
  pub all : (p : ℕ) → g.write p ≡ true → 0 < times p run

-- one sequence comes before another: by the places at the first difference, and before its extensions
abbrev pub Comes : List ℕ → List ℕ → Type 0
Comes [] [] = ⊥
Comes [] (y ∷ ys) = Unit {0}
Comes (x ∷ xs) [] = ⊥
Comes (x ∷ xs) (y ∷ ys) = (x < y) ⊎ ((x ≡ y) × Comes xs ys)

abbrev pub In : List ℕ → List (List ℕ) → Type 0
In run [] = ⊥
In run (x ∷ xs) = (run ≡ x) ⊎ In run xs

-- each comes before all that follow it
abbrev pub Ascending : List (List ℕ) → Type 0
Ascending [] = Unit {0}
Ascending (x ∷ xs) = ((y : List ℕ) → In y xs → Comes x y) × Ascending xs

-- no value order comes before the sequence
abbrev pub Unbeaten : Graph → ℕ → List ℕ → Type 0
Unbeaten g k run = (other : List ℕ) → ValueOrder g k other → Comes other run → ⊥

-- the first value order for k
pub record First (g : Graph) (k : ℕ) (run : List ℕ) : Type 0 where
  pub order : ValueOrder g k run
  pub unbeaten : Unbeaten g k run

-- there is no value order for k
abbrev pub NoneFor : Graph → ℕ → Type 0
NoneFor g k = (run : List ℕ) → ValueOrder g k run → ⊥

-- The trials for k are c: c is the number of run-ups up to and including the first value order, or of all run-ups if there is
-- none. In both cases these are the run-ups that no value order comes before.
pub record Trials (g : Graph) (k c : ℕ) : Type 0 where
  pub listed : List (List ℕ)
  pub number : length listed ≡ c
  pub ascending : Ascending listed
  pub only : (run : List ℕ) → In run listed → RunUp g k run × Unbeaten g k run
  pub all : (run : List ℕ) → RunUp g k run → Unbeaten g k run → In run listed

-- the trials for 1, 2 and so on up to k, added
abbrev pub TrialsUpTo : Graph → ℕ → ℕ → Type 0
TrialsUpTo g zero c = c ≡ 0
TrialsUpTo g (suc k) c = (a : ℕ) × (b : ℕ) × TrialsUpTo g k a × Trials g (suc k) b × (c ≡ a + b)

-- no k from 1 on and below this one has a value order
abbrev pub NoneBelow : Graph → ℕ → Type 0
NoneBelow g k = (j : ℕ) → 1 ≤ j → j < k → NoneFor g j

-- what trying k = 1, 2, 3 and so on comes to: k is the first with a value order, of which run is the first, and c are the trials of all tried k
pub record Tried (g : Graph) (k c : ℕ) (run : List ℕ) : Type 0 where
  pub from_one : 1 ≤ k
  pub none_below : NoneBelow g k
  pub first : First g k run
  pub trials : TrialsUpTo g k c
