-- Cites the lemma. Assumes nothing.
use Rattle.orders.proofs.bay_is_tried.Goals as goal
use Rattle.orders.proofs.Judged.{bay_is_tried}

pub returns : goal.returns
returns c = bay_is_tried
