-- Cites the lemma. Assumes nothing.
use Rattle.orders.proofs.orders_restrict.Goals as goal
use Rattle.orders.proofs.Restricting.{orders_restrict}

pub returns : goal.returns
returns c = orders_restrict
