-- Cites the lemma. Assumes nothing.
use Rattle.orders.proofs.value_orders_are_lawful_orders.Goals as goal
use Rattle.orders.proofs.LeastAges.{value_orders_are_lawful_orders}

pub returns : goal.returns
returns c = value_orders_are_lawful_orders
