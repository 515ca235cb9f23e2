use Rattle.std.proofs.Common.{◌≡◌, true, get_or, arith, rules}
use Rattle.logs.specs.Cabinets.{holds, bay_of}
use Rattle.logs.specs.declared.cabinet.Cabinet.TheVariants.{Idle}
use Rattle.logs.proofs.Holding.{held_found}
use Rattle.logs.proofs.storage.Storage.bay_held.Goals as goal

pub returns-in-Reading-Read : goal.returns-in-Reading-Read
returns-in-Reading-Read g c =
    let s = c.args.self.now in
    let name = c.args.name in
    let held : holds name.sort name.begun (get_or s.cabinets name.cabinet Idle) ≡ true = search rules in
    let there : c.in-Reading-Read.bay ≡ bay_of (get_or s.cabinets name.cabinet Idle) = search rules in
    held_found s.cabinets name.cabinet name.sort name.begun c.in-Reading-Read.bay s.next s.waiting s.held s.counted held there (omega (arith, s.wide, c.in_ok-cabinet.ensures.lookup.3.0))

pub returns-in-Writing-Write : goal.returns-in-Writing-Write
returns-in-Writing-Write g c =
    let s = c.args.self.now in
    let name = c.args.name in
    let held : holds name.sort name.begun (get_or s.cabinets name.cabinet Idle) ≡ true = search rules in
    let there : c.in-Writing-Write.bay ≡ bay_of (get_or s.cabinets name.cabinet Idle) = search rules in
    held_found s.cabinets name.cabinet name.sort name.begun c.in-Writing-Write.bay s.next s.waiting s.held s.counted held there (omega (arith, s.wide, c.in_ok-cabinet.ensures.lookup.3.0))
