-- Cites the lemma. Assumes nothing.
use Rattle.orders.proofs.cases_hold.Goals as goal
use Rattle.orders.proofs.Worked.{cases_hold}

pub returns : goal.returns
returns c = cases_hold
