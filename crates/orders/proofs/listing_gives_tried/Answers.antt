-- Cites the lemma. Assumes nothing.
use Rattle.orders.proofs.listing_gives_tried.Goals as goal
use Rattle.orders.proofs.Judged.{listing_gives_tried}

pub returns : goal.returns
returns c = listing_gives_tried
