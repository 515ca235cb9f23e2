use Rattle.std.proofs.Common.{◌≡◌, ◌<◌, ◌≤◌, ◌++◌, length, drop, sym, ap, ◌∙◌, arith, rules}
use Rattle.std.proofs.lemmas.Result.{MatchResult-at_ok}
use Rattle.judging.proofs.Filling.{fill_more, fill_room, fill_all}
use Rattle.judging.proofs.sheet.fill.Goals as goal

pub unwrap-requires : goal.unwrap-requires
unwrap-requires c =
    let room : c.loop-place.entries.len < length c.loop-place.entries.items.now = omega (arith, ap length c.new-entries.ensures.same, fill_room c.args.order.now c.new-entries.result.items.now c.loop-place.entries.items.now c.loop-place.place-index (omega (arith, ap length c.new-entries.ensures.same)) c.loop-place.invariant.1 (omega arith)) in
    grind (arith, c.push.ensures.pushed, room)

pub loop-place-preserved : goal.loop-place-preserved
loop-place-preserved c =
    let pushed = MatchResult-at_ok _ _ _ c.unwrap.ensures c.push.ensures.pushed in
    let short : length c.args.order.now ≤ length c.new-entries.result.items.now = omega (arith, ap length c.new-entries.ensures.same) in (
      omega arith,
      fill_more c.args.order.now c.new-entries.result.items.now c.loop-place.entries.items.now c.loop-place.place-index short c.loop-place.invariant.1 _ c.loop-place.entries.len (omega arith) c.loop-place.invariant.0 pushed.2,
      c.push.ensures.lent ∙ c.loop-place.invariant.2,
    )

pub returns : goal.returns
returns c =
    let same = c.new-entries.ensures.same in
    let short : length c.args.order.now ≤ length c.new-entries.result.items.now = omega (arith, ap length same) in
    let all : c.loop-place.entries.items.now ≡ c.args.order.now ++ drop (length c.args.order.now) c.args.sheet.now =
    fill_all c.args.order.now c.new-entries.result.items.now c.loop-place.entries.items.now c.loop-place.place-index short c.loop-place.invariant.1 (omega arith)
    ∙ ap (λ l. c.args.order.now ++ drop (length c.args.order.now) l) same in
    let named = sym (c.loop-place.invariant.2 ∙ c.new-entries.ensures.lent) in
    search rules
