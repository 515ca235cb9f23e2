-- Operations, the lawful orders of them, the ages of their reads, and the edges between the writes of a bay. Assumes nothing.
use Rattle.std.specs.Prelude.{◌≡◌, ℕ, suc, ◌+◌, ◌<◌, ◌≤◌, min, Bool, true, false, cond, not, ◌&&◌, List, [], ◌∷◌, length, ◌==◌, nat_lt, slice_index_or}
use Rattle.orders.specs.Places.{bit, tally, top, some, times, position, Earlier}
use Rattle.orders.specs.RunUps.{Graph}

-- an operation: a write or a read of a bay, with the meaning of its value, from a start tick to a finish tick
pub record Operation : Type 0 where
  pub write : Bool
  pub bay : ℕ
  pub value : ℕ × ℕ
  pub start : ℕ
  pub finish : ℕ

-- stands where a list has no operation
abbrev pub nothing : Operation
nothing = record { write = false; bay = 0; value = (0, 0); start = 0; finish = 0 }

-- the operation at a place
abbrev pub at : List Operation → ℕ → Operation
at ops p = slice_index_or ops p nothing

-- no operation starts after its finish
abbrev pub Timed : List Operation → Type 0
Timed ops = (p : ℕ) → p < length ops → (at ops p).start ≤ (at ops p).finish

-- a is before b when a's finish is smaller than b's start; so operations that touch are concurrent
abbrev pub before : Operation → Operation → Bool
before a b = nat_lt a.finish b.start

-- the same bay and the same value
abbrev pub alike : Operation → Operation → Bool
alike a b = a.bay == b.bay && (a.value.0 == b.value.0 && a.value.1 == b.value.1)

-- r is a read of what w writes
abbrev pub reads : Operation → Operation → Bool
reads r w = w.write && (not r.write && alike w r)

-- the place of the first write of r's bay and value; the length if there is none
abbrev pub write_of : List Operation → Operation → ℕ
write_of [] r = 0
write_of (w ∷ ws) r = cond (w.write && alike w r) 0 (suc (write_of ws r))

-- place p holds a write of bay b
abbrev pub writes : List Operation → ℕ → ℕ → Bool
writes ops b p = nat_lt p (length ops) && ((at ops p).write && (at ops p).bay == b)

-- how many writes bay b has
abbrev pub write_count : List Operation → ℕ → ℕ
write_count ops b = tally (length ops) (writes ops b)

-- which operations an order is of: those of every bay,
abbrev pub whole : Operation → Bool
whole o = true

-- or those of one bay
abbrev pub of_bay : ℕ → Operation → Bool
of_bay b o = o.bay == b

-- p is a place of the list, and its operation is among those that are held
abbrev pub among : List Operation → (Operation → Bool) → ℕ → Bool
among ops held p = nat_lt p (length ops) && held (at ops p)

-- A lawful order holds every operation once and nothing else; whatever is before another stands earlier; each read stands after
-- the write of its bay and value.
pub record Lawful (ops : List Operation) (held : Operation → Bool) (order : List ℕ) : Type 0 where
  pub once : (p : ℕ) → times p order ≡ bit (among ops held p)
  pub timely : (a b : ℕ) → among ops held a ≡ true → among ops held b ≡ true → before (at ops a) (at ops b) ≡ true → Earlier order a b
  pub fed : (r : ℕ) → among ops held r ≡ true → (at ops r).write ≡ false → Earlier order (write_of ops (at ops r)) r

-- a read's age: 1 plus the number of writes of its bay between the write of its value and the read
abbrev pub age : List Operation → List ℕ → ℕ → ℕ
age ops order r = 1 + tally (length ops) (λ p. writes ops (at ops r).bay p && (nat_lt (position order (write_of ops (at ops r))) (position order p) && nat_lt (position order p) (position order r)))

-- the greatest age of a read that the order is of, 0 without reads
abbrev pub largest_age : List Operation → (Operation → Bool) → List ℕ → ℕ
largest_age ops held order = top (length ops) (λ r. cond (held (at ops r) && not (at ops r).write) (age ops order r) 0)

-- the least largest age that a lawful order of the held operations has: one has it, and every other has at least it
pub record LeastAge (ops : List Operation) (held : Operation → Bool) (k : ℕ) : Type 0 where
  pub order : List ℕ
  pub lawful : Lawful ops held order
  pub has : largest_age ops held order ≡ k
  pub least : (other : List ℕ) → Lawful ops held other → k ≤ largest_age ops held other

-- the smallest of w's own finish and those of its reads in the list
abbrev pub soonest : List Operation → Operation → ℕ
soonest [] w = w.finish
soonest (r ∷ rs) w = cond (reads r w) (min r.finish (soonest rs w)) (soonest rs w)

-- a shortened write is the same operation with an earlier finish
abbrev pub shortened : List Operation → Operation → Operation
shortened ops w = record { write = w.write; bay = w.bay; value = w.value; start = w.start; finish = soonest ops w }

-- a write edge goes from write u to write v when u, shortened, is before v
abbrev pub write_edge : List Operation → ℕ → ℕ → Bool
write_edge ops u v = before (shortened ops (at ops u)) (at ops v)

-- a read edge goes from u to a different write v when u, shortened, is before some read of v's value
abbrev pub read_edge : List Operation → ℕ → ℕ → Bool
read_edge ops u v = not (u == v) && some (length ops) (λ r. reads (at ops r) (at ops v) && before (shortened ops (at ops u)) (at ops r))

-- the writes of bay b and the edges between them
abbrev pub bay_graph : List Operation → ℕ → Graph
bay_graph ops b = record { write = writes ops b; write_edge = write_edge ops; read_edge = read_edge ops }

-- no value is written twice in its bay
abbrev pub Distinct : List Operation → (Operation → Bool) → Type 0
Distinct ops held = (u v : ℕ) → among ops held u ≡ true → among ops held v ≡ true → (at ops u).write ≡ true → (at ops v).write ≡ true → alike (at ops u) (at ops v) ≡ true → u ≡ v

-- every read has a write of its bay and value
abbrev pub Sourced : List Operation → (Operation → Bool) → Type 0
Sourced ops held = (r : ℕ) → among ops held r ≡ true → (at ops r).write ≡ false → write_of ops (at ops r) < length ops

-- no read is before its write
abbrev pub Unforeseen : List Operation → (Operation → Bool) → Type 0
Unforeseen ops held = (r : ℕ) → among ops held r ≡ true → (at ops r).write ≡ false → before (at ops r) (at ops (write_of ops (at ops r))) ≡ false
