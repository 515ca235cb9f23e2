-- Cites the lemma. Assumes nothing.
use Rattle.orders.proofs.lawful_orders_exist.Goals as goal
use Rattle.orders.proofs.Existence.{lawful_orders_exist}

pub returns : goal.returns
returns c = lawful_orders_exist
