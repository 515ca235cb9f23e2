-- Where a log refuses a call: for each call its checks, in the order in which they are made. Assumes nothing.
use Rattle.std.specs.Prelude.{ℕ, ◌+◌, min, Bool, ◌&&◌, List, [], ◌∷◌, ◌==◌, nat_le, nat_lt}
use Rattle.lives.specs.declared.refusal.LogRefusal.{LogRefusal}
use Rattle.lives.specs.declared.refusal.LogRefusal.TheVariants.{FirstTick, NoCabinet, NoSuchBay, Busy, Full, NoTick, NotWaiting, Waiting}

-- the numbers that a begin looks at
pub record Tally : Type 0 where
  -- how many operations ended, and how many wait
  pub ended : ℕ
  pub waiting : ℕ
  -- the next tick
  pub next : ℕ
  -- how many entries the storage has
  pub entries : ℕ

abbrev pub tally : ℕ → ℕ → ℕ → ℕ → Tally
tally ended waiting next entries = record { ended = ended; waiting = waiting; next = next; entries = entries }

-- how many operations may have ended or wait
abbrev pub limit : ℕ → ℕ
limit entries = min 512 entries

abbrev pub open_checks : ℕ → List (Bool × LogRefusal)
open_checks first = (nat_le 1 first && nat_le first 1073741823, FirstTick first) ∷ []

-- a begin of an operation of this cabinet and bay; idle says whether the cabinet is
abbrev pub begin_checks : Tally → ℕ → ℕ → Bool → List (Bool × LogRefusal)
begin_checks t cabinet bay idle =
    (nat_le cabinet 63, NoCabinet cabinet)
    ∷ (nat_le bay 63, NoSuchBay bay)
    ∷ (idle, Busy cabinet)
    ∷ (nat_lt (t.ended + t.waiting) (limit t.entries), Full (limit t.entries))
    ∷ (nat_le (t.next + t.waiting + 1) 1073741823, NoTick t.next)
    ∷ []

-- an end or a loss with a ticket of this tick; waits says whether an operation with the ticket's cabinet, tick and sort does
abbrev pub ticket_checks : ℕ → Bool → List (Bool × LogRefusal)
ticket_checks begun waits = (waits, NotWaiting begun) ∷ []

-- a close where this many wait
abbrev pub close_checks : ℕ → List (Bool × LogRefusal)
close_checks count = ((count == 0), Waiting count) ∷ []
