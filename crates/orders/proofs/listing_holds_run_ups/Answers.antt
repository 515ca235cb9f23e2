-- Cites the lemma. Assumes nothing.
use Rattle.orders.proofs.listing_holds_run_ups.Goals as goal
use Rattle.orders.proofs.Listed.{listing_holds_run_ups}

pub returns : goal.returns
returns c = listing_holds_run_ups
