use Rattle.std.proofs.Common.{◌≡◌, ℕ, ◌≤◌, List, ◌++◌, length, drop}
use Rattle.std.specs.Fmt.{HasWritten, IsPlainFormatter}
use Rattle.summaries.specs.Summaries.{all_writes, findings_words}
use Rattle.summaries.proofs.lines.SummaryDisplay.fmt.Given as goal

abbrev pub invariant-loop-finding : goal.invariant-loop-finding
invariant-loop-finding g l =
    let findings = l.self.findings.now in
    (all_writes (drop l.finding-index findings) ≤ length l.rest)
    × ((text : List ℕ) × (text ++ findings_words (drop l.finding-index findings) l.rest ≡ findings_words findings l.self.orders.now) × (IsPlainFormatter l.initial.f → HasWritten g.W.Write.write_str_gives l.initial.f text l.f))
