-- Cites the lemma. Assumes nothing.
use Rattle.orders.proofs.trials_are_unique.Goals as goal
use Rattle.orders.proofs.Unique.{trials_are_unique}

pub returns : goal.returns
returns c = trials_are_unique
