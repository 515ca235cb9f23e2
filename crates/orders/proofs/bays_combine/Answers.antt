-- Cites the lemma. Assumes nothing.
use Rattle.orders.proofs.bays_combine.Goals as goal
use Rattle.orders.proofs.Combining.{bays_combine}

pub returns : goal.returns
returns c = bays_combine
