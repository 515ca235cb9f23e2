-- The account of a script and its answers. Assumes nothing.
use Rattle.std.specs.Prelude.{ℕ, ◌+◌, ◌-◌, Bool, true, false, List, [], ◌∷◌, ◌++◌, length, drop, codes, decimal, filter, Ok, Err}
use Rattle.replaying.specs.Scripts.{Answer}
use Rattle.replaying.specs.declared.answer.Accepted.TheVariants.{Begun, Ended, Lost, Closed, Reopened, Surveyed}
use Rattle.replaying.specs.declared.call.Call.{Call}
use Rattle.replaying.specs.Words.{call_words, answer_words}

-- whether a begin, an end or a loss was accepted
abbrev pub is_begun : Answer → Bool
is_begun (Ok (Begun _)) = true
is_begun (Ok Ended) = false
is_begun (Ok Lost) = false
is_begun (Ok Closed) = false
is_begun (Ok Reopened) = false
is_begun (Ok (Surveyed _)) = false
is_begun (Err _) = false

abbrev pub is_ended : Answer → Bool
is_ended (Ok (Begun _)) = false
is_ended (Ok Ended) = true
is_ended (Ok Lost) = false
is_ended (Ok Closed) = false
is_ended (Ok Reopened) = false
is_ended (Ok (Surveyed _)) = false
is_ended (Err _) = false

abbrev pub is_lost : Answer → Bool
is_lost (Ok (Begun _)) = false
is_lost (Ok Ended) = false
is_lost (Ok Lost) = true
is_lost (Ok Closed) = false
is_lost (Ok Reopened) = false
is_lost (Ok (Surveyed _)) = false
is_lost (Err _) = false

-- how many answers pass the test
abbrev pub count : (Answer → Bool) → List Answer → ℕ
count test answers = length (filter test answers)

-- as `begins 3 ends 2 losses 1 waiting 0`: what was begun and neither ended nor lost waits
abbrev pub counts_words : ℕ → ℕ → ℕ → List ℕ
counts_words begins ends losses =
    codes "begins " ++ (decimal begins ++ (codes " ends " ++ (decimal ends ++ (codes " losses " ++ (decimal losses ++ (codes " waiting " ++ decimal (begins - (ends + losses))))))))

module _ {V : Type 0} (words : V → List ℕ) where
  -- a call with its answer, as `close: refused 22 at 1 by log`
  abbrev pub line_words : Call V → Answer → List ℕ
  line_words call answer = call_words words call ++ (codes ": " ++ (answer_words answer ++ codes "\n"))

  -- every call that was made, with its answer
  abbrev pub lines_words : List (Call V) → List Answer → List ℕ
  lines_words [] answers = []
  lines_words (call ∷ calls) [] = []
  lines_words (call ∷ calls) (answer ∷ answers) = line_words call answer ++ lines_words calls answers

  -- the call at which the script stopped, where calls are left
  abbrev pub stop_words : List (Call V) → List ℕ
  stop_words [] = []
  stop_words (call ∷ calls) = codes "stopped at " ++ (call_words words call ++ codes "\n")

  -- the lines, where the script stopped, and the counts
  abbrev pub account_words : List (Call V) → List Answer → List ℕ
  account_words calls answers =
      lines_words calls answers ++ (stop_words (drop (length answers) calls) ++ counts_words (count is_begun answers) (count is_ended answers) (count is_lost answers))
