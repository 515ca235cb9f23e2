-- Cites the lemma. Assumes nothing.
use Rattle.orders.proofs.tried_is_unique.Goals as goal
use Rattle.orders.proofs.Unique.{tried_is_unique}

pub returns : goal.returns
returns c = tried_is_unique
