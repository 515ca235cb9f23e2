use Rattle.std.proofs.Common.{◌≡◌, ℕ, List, ◌++◌}
use Rattle.std.specs.Fmt.{HasWritten, IsPlainFormatter}
use Rattle.std.specs.Iterator.Adapters.{zip_first, zip_second}
use Rattle.std.specs.Slice.Iter.{iter_rest}
use Rattle.scripts.specs.Accounts.{lines_words}
use Rattle.scripts.proofs.account.LinesDisplay.fmt.Given as goal

-- some text was written, and the lines of what is left follow it
abbrev pub invariant-loop-call : goal.invariant-loop-call
invariant-loop-call g l =
    (text : List ℕ)
    × (lines_words g.V.Written.words l.self.calls.now l.self.answers.now ≡ text ++ lines_words g.V.Written.words (iter_rest (zip_first l.call-iterator)) (iter_rest (zip_second l.call-iterator)))
    × (IsPlainFormatter l.initial.f → HasWritten g.W.Write.write_str_gives l.initial.f text l.f)
