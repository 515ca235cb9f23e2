use Rattle.std.proofs.Common.{arith, [], ◌∷◌, ◌++◌, sym, subst, ap, ◌∙◌}
use Rattle.std.proofs.lemmas.Grind.{common_steps}
use Rattle.std.proofs.lemmas.List.{length-map, map_push}
use Rattle.std.proofs.lemmas.Bool.{eq-eqb, and_from}
use Rattle.orders.specs.Orders.{at}
use Rattle.orders.proofs.Operations.{writing}
use Rattle.lists.specs.Lists.{listed}
use Rattle.relations.specs.Meanings.{told}
use Rattle.gathering.specs.Kept.{AllKept}
use Rattle.gathering.specs.Spans.{span, spans}
use Rattle.relations.proofs.Told.{told_at}
use Rattle.gathering.proofs.Wrote.{wrote_added}
use Rattle.gathering.proofs.Keeping.{kept_push}
use Rattle.gathering.proofs.writes.add_write.Goals as goal

pub returns-clause-kept : goal.returns-clause-kept
returns-clause-kept g c kept =
    let m = g.V.Kind.meaning in
    let rows = c.args.rows.now in
    let ws = listed c.args.writes.now in
    subst (AllKept m rows) (sym (c.in-Ok.ensures.1 ∙ ap (λ w. ws ++ (w ∷ [])) (grind (arith, common_steps, c.without_value.ensures)))) (kept_push m rows ws c.args.place c.index-rows-place.result c.index-rows-place.is kept)

pub returns-clause-twice : goal.returns-clause-twice
returns-clause-twice g c b wrote is_write =
    let m = g.V.Kind.meaning in
    let rows = c.args.rows.now in
    let ops = told m rows in
    let ws = listed c.args.writes.now in
    let w = writing ops b c.args.place is_write in
    let here = told_at m rows c.args.place c.index-rows-place.result c.requires c.index-rows-place.is in
    wrote_added ops b c.args.place (spans ws) wrote w.below (and_from _ _ (eq-eqb (at ops c.args.place).bay b w.bay) w.write) (spans (listed c.push.new.self)) (
      omega (arith, c.in-Ok.ensures.0, length-map ws span),
      ap spans c.in-Ok.ensures.1 ∙ map_push span ws _ ∙ ap (λ s. spans ws ++ (s ∷ [])) (grind (arith, common_steps, c.without_value.ensures, here)),
    )
