-- Cites the lemma. Assumes nothing.
use Rattle.orders.proofs.tried_is_least_age.Goals as goal
use Rattle.orders.proofs.LeastAges.{tried_is_least_age}

pub returns : goal.returns
returns c = tried_is_least_age
