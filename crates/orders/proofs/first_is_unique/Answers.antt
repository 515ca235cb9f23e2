-- Cites the lemma. Assumes nothing.
use Rattle.orders.proofs.first_is_unique.Goals as goal
use Rattle.orders.proofs.Unique.{first_is_unique}

pub returns : goal.returns
returns c = first_is_unique
