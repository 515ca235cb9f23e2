use Rattle.std.proofs.Common.{◌≡◌, ◌<◌, ◌≤◌, cond, length, take, sym, ap, ◌∙◌, subst, arith}
use Rattle.std.proofs.lemmas.Result.{err_from_is_err_and}
use Rattle.std.proofs.lemmas.Bool.{cond-true, cond-false, eqb-true, eqb-false}
use Rattle.std.proofs.lemmas.List.{length-map}
use Rattle.lists.specs.Lists.{listed}
use Rattle.lists.proofs.Listed.{listed_few}
use Rattle.gathering.specs.Spans.{span, spans}
use Rattle.gathering.specs.Writes.{places}
use Rattle.trying.specs.Trying.{placed, RanksUpTo}
use Rattle.trying.proofs.Tried.{ranks_found, judged_idle, judged_found, judged_missed}
use Rattle.trying.proofs.judge.judge_bay.Goals as goal
use Rattle.trying.proofs.judge.judge_bay.Goals.{then-bay, else-bay}

pub placed-requires : goal.placed-requires
placed-requires c =
    let ws = listed c.args.bay.now.writes in
    let few = listed_few c.args.bay.now.writes in
    let long = length-map ws span in
    let up = ranks_found (spans ws) c.args.limit c.in_ok-found.found (subst (λ n. n ≤ 64) (sym long) few) c.in_ok-found.ensures in
    subst (λ l. (length l ≤ 64) × RanksUpTo (length l) c.in_ok-found.found.writes) (sym c.as_slice.ensures.value) (few, subst (λ n. RanksUpTo n c.in_ok-found.found.writes) long up)

pub returns-then-is_empty : goal.returns-then-is_empty
returns-then-is_empty c ops b gathered ready =
    judged_idle ops b c.args.bay.now gathered c.args.limit (length-map (listed c.args.bay.now.writes) span ∙ eqb-true (length (listed c.args.bay.now.writes)) 0 (sym c.is_empty.ensures ∙ c.if-is_empty.true)) (listed c.new.result) c.new.ensures

pub returns-in_err-found : goal.returns-in_err-found
returns-in_err-found c ops b gathered ready =
    let p = err_from_is_err_and c.from_residual.result c.from_residual.ensures.1 in
    let some : 0 < length (spans (listed c.args.bay.now.writes)) = omega (arith, length-map (listed c.args.bay.now.writes) span, eqb-false (length (listed c.args.bay.now.writes)) 0 (sym c.is_empty.ensures ∙ c.if-is_empty.false)) in
    rw p.1 (judged_missed ops b c.args.bay.now gathered c.args.limit ready some c.in_err-found.field-0.0 c.in_err-found.ensures)

pub returns : goal.returns
returns c ops b gathered ready =
    let bay = c.args.bay.now in
    let found = c.in_ok-found.found in
    let same = c.as_slice.ensures.value in
    let long = length-map (listed bay.writes) span in
    let some : 0 < length (spans (listed bay.writes)) = omega (arith, long, eqb-false (length (listed bay.writes)) 0 (sym c.is_empty.ensures ∙ c.if-is_empty.false)) in
    let aged : c.if-bay.result ≡ cond bay.read found.age 0 = elim c.if-bay.branch [
      | then-bay w ↦ w.result-is ∙ sym (cond-true bay.read found.age 0 w.if-bay.true)
      | else-bay w ↦ w.result-is ∙ sym (cond-false bay.read found.age 0 w.if-bay.false)
    ] in
    judged_found ops b bay gathered c.args.limit ready found (listed c.placed.result) c.if-bay.result some c.in_ok-found.ensures
    (subst (λ ws. listed c.placed.result ≡ placed (places (spans ws)) (take (length ws) found.writes)) same c.placed.ensures.order ∙ ap (λ n. placed (places (spans (listed bay.writes))) (take n found.writes)) (sym long))
    (c.placed.ensures.all ∙ ap length same ∙ sym long) aged
