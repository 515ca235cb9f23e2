use Rattle.std.proofs.Common.{◌≡◌, length, sym, ap, ◌∙◌, arith}
use Rattle.std.proofs.lemmas.List.{length-map}
use Rattle.std.proofs.lemmas.Result.{err_from_is_err_and}
use Rattle.lists.specs.Lists.{listed}
use Rattle.operations.specs.Rooms.{held}
use Rattle.orders.specs.Places.{top}
use Rattle.relations.specs.Meanings.{told, meant}
use Rattle.surveying.specs.Surveying.{crane_bays, judged_age, judged_trials, trials_below, findings_below, orders_below}
use Rattle.surveying.proofs.Found.{rows_judgeable, top_more, total_more, findings_more, orders_more, orders_fit, findings_few}
use Rattle.surveying.proofs.Refusing.{crane_is}
use Rattle.surveying.proofs.crane.judge_bays.Goals as goal

pub returns-in_err-found : goal.returns-in_err-found
returns-in_err-found g c =
    let p = err_from_is_err_and c.from_residual.result c.from_residual.ensures.1 in
    let over = c.in_err-found.ensures in
    rw (p.1, p.2) (record { bay = c.loop-number.number; inside = omega (arith, crane_is); within = omega (arith, c.loop-number.invariant.1, c.loop-number.invariant.2); over = omega (arith, over.0, c.loop-number.invariant.1, c.loop-number.invariant.2); refused = over.1 })

pub add-requires : goal.add-requires
add-requires g c =
    let rows = c.args.rows.now in let ops = told g.V.Kind.meaning rows in let n = c.loop-number.number in
    let found = c.in_ok-found.ensures in (
      omega (arith, findings_few ops n, ap length c.loop-number.invariant.3),
      omega (arith, orders_fit ops n (rows_judgeable g.V.Kind.meaning rows c.requires.1), ap length c.loop-number.invariant.4, found.writes, length-map rows (meant g.V.Kind.meaning), c.requires.0),
    )

pub loop-number-preserved : goal.loop-number-preserved
loop-number-preserved g c =
    let rows = c.args.rows.now in let ops = told g.V.Kind.meaning rows in let n = c.loop-number.number in
    let inv = c.loop-number.invariant in
    let found = c.in_ok-found.ensures in
    let order = c.in_ok-found.found in (
      top_more (judged_age ops) n c.loop-number.age order.age c.max-age.result inv.0 found.age c.max-age.ensures,
      total_more (judged_trials ops) n c.loop-number.trials order.trials inv.1 found.trials,
      omega (arith, found.within, inv.2),
      findings_more ops n (held c.loop-number.kept.findings) (held c.add.new.self.findings) order.age (length (listed order.places)) (rows_judgeable g.V.Kind.meaning rows c.requires.1).sourced inv.3 found.age found.writes c.add.ensures.findings,
      orders_more ops n (held c.loop-number.kept.orders) (held c.add.new.self.orders) _ inv.4 found.order c.add.ensures.orders,
    )

pub returns : goal.returns
returns g c =
    let rows = c.args.rows.now in let ops = told g.V.Kind.meaning rows in
    let inv = c.loop-number.invariant in
    let ended : c.loop-number.number ≡ crane_bays = omega (arith, crane_is) in
    let age : c.loop-number.age ≡ top crane_bays (judged_age ops) = inv.0 ∙ ap (λ n. top n (judged_age ops)) ended in
    let trials : c.loop-number.trials ≡ trials_below ops crane_bays = inv.1 ∙ ap (trials_below ops) ended in
    let kept : length rows ≡ length ops = sym (length-map rows (meant g.V.Kind.meaning)) in
    record { reported = cc; within = omega (arith, trials, inv.2); found = inv.3 ∙ ap (findings_below ops) ended; ordered = inv.4 ∙ ap (orders_below ops) ended }
