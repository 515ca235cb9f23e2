use Rattle.std.proofs.Common.{refl, arith}
use Rattle.logs.proofs.Holding.{fresh_held, fresh_rows}
use Rattle.logs.proofs.storage.Storage.reset.Goals as goal

pub invariant_of-self : goal.invariant_of-self
invariant_of-self g c = record { wide = refl; held = fresh_held 64 _; valid = fresh_rows _ _ c.clear.ensures.empty; counted = refl; room = omega arith; ticks = omega arith }
