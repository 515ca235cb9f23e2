use Rattle.std.specs.Fmt.{HasWritten, IsPlainFormatter}
use Rattle.masks.specs.Masks.{has_bit}
use Rattle.reports.specs.Accounts.{bays_words}
use Rattle.reports.proofs.account.BaysLeftOutDisplay.fmt.Given as goal

abbrev pub invariant-loop-bay : goal.invariant-loop-bay
invariant-loop-bay g l =
    IsPlainFormatter l.initial.f → HasWritten g.W.Write.write_str_gives l.initial.f (bays_words (has_bit l.self.kept.mask) l.bay-counter) l.f
