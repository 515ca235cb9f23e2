use Rattle.std.proofs.Common.{vec_len}
use Rattle.replaying.proofs.hand.Hand.use_up.Given as goal

abbrev pub decreases-loop-ticket : goal.decreases-loop-ticket
decreases-loop-ticket l = vec_len l.tickets
