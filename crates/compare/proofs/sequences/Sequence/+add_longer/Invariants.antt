use Rattle.std.proofs.Common.{◌-◌}
use Rattle.compare.proofs.sequences.Sequence.+add_longer.Given as goal

abbrev pub decreases-add_longer : goal.decreases-add_longer
decreases-add_longer l = 6 - l.self.now.length
