use Rattle.std.proofs.Common.{ap, arith, rules}
use Rattle.logs.specs.Cabinets.{bay_of, begun_of}
use Rattle.logs.proofs.Holding.{begun_count, held_set, bay_occupied, begun_occupied}
use Rattle.logs.proofs.storage.Storage.begin.Goals as goal

pub invariant_of-self : goal.invariant_of-self
invariant_of-self g c =
    let s = c.args.self.now in
    let is = c.occupied.ensures in
    record {
      wide = search rules;
      held = held_set s.cabinets c.args.cabinet c.occupied.result s.next _ s.held (omega (arith, ap bay_of is, bay_occupied c.args.sort c.args.bay s.next)) (omega (arith, ap begun_of is, begun_occupied c.args.sort c.args.bay s.next)) (omega arith);
      valid = s.valid;
      counted = search (rules, begun_count);
      room = omega arith;
      ticks = omega arith;
    }
