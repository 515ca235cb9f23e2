use Rattle.std.proofs.Common.{◌≡◌, ◌++◌, map, length}
use Rattle.std.specs.Fmt.{HasWritten, IsPlainFormatter}
use Rattle.operations.specs.Passes.{coming}
use Rattle.reports.specs.Accounts.{rows_words}
use Rattle.reports.proofs.lines.OperationsDisplay.fmt.Given as goal

abbrev pub invariant-loop-place : goal.invariant-loop-place
invariant-loop-place g l =
    let told = map (λ line. line.1.row) l.yielded in
    (l.place-iterator.count ≡ length l.yielded)
    × (told ++ coming g.S.Source.onward l.place-iterator.iter ≡ g.S.Source.operations l.self.source.now)
    × (IsPlainFormatter l.initial.f → HasWritten g.W.Write.write_str_gives l.initial.f (rows_words g.S.Value.Written.words 0 told) l.f)
