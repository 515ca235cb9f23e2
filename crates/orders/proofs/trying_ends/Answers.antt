-- Cites the lemma. Assumes nothing.
use Rattle.orders.proofs.trying_ends.Goals as goal
use Rattle.orders.proofs.LeastAges.{trying_ends}

pub returns : goal.returns
returns c = trying_ends
