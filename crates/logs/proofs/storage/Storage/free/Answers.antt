use Rattle.std.proofs.Common.{arith, rules}
use Rattle.logs.specs.declared.cabinet.Cabinet.TheVariants.{Idle}
use Rattle.logs.proofs.Holding.{freed_count, held_set}
use Rattle.logs.proofs.storage.Storage.free.Goals as goal

pub invariant_of-self : goal.invariant_of-self
invariant_of-self g c =
    let s = c.args.self.now in
    record {
      wide = search rules;
      held = held_set s.cabinets c.args.cabinet Idle s.next _ s.held (omega arith) (omega arith) (omega arith);
      valid = s.valid;
      counted = search (rules, freed_count);
      room = omega arith;
      ticks = omega arith;
    }
