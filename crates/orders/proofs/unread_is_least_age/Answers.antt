-- Cites the lemma. Assumes nothing.
use Rattle.orders.proofs.unread_is_least_age.Goals as goal
use Rattle.orders.proofs.LeastAges.{unread_is_least_age}

pub returns : goal.returns
returns c = unread_is_least_age
