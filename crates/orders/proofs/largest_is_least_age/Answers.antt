-- Cites the lemma. Assumes nothing.
use Rattle.orders.proofs.largest_is_least_age.Goals as goal
use Rattle.orders.proofs.LeastAges.{largest_is_least_age}

pub returns : goal.returns
returns c = largest_is_least_age
