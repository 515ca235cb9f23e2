-- Cites the lemma. Assumes nothing.
use Rattle.orders.proofs.nothing_is_least_age.Goals as goal
use Rattle.orders.proofs.LeastAges.{nothing_is_least_age}

pub returns : goal.returns
returns c = nothing_is_least_age
