use Rattle.std.proofs.Common.{◌≡◌, length, refl, arith, rules}
use Rattle.lives.specs.Life.{any_answer}
use Rattle.logs.specs.States.{opened_at}
use Rattle.logs.proofs.Carrying.{opened_leads}
use Rattle.logs.proofs.Holding.{fresh_held, fresh_rows}
use Rattle.logs.proofs.storage.Storage.new.Goals as goal

pub invariant_of-result : goal.invariant_of-result
invariant_of-result g c = record { wide = refl; held = fresh_held 64 1; valid = fresh_rows _ _ c.new.ensures.empty; counted = refl; room = omega arith; ticks = omega arith }

pub returns-clause-life : goal.returns-clause-life
returns-clause-life g c =
    let e : _ ≡ opened_at 1 (length c.args.rows.now) = search rules in
    opened_leads any_answer _ 1 (length c.args.rows.now) refl e
