use Rattle.std.proofs.Common.{◌≡◌, ◌<◌, ◌∷◌, [], ◌++◌, length, get_or, take, sym, ap, ◌∙◌, subst, arith}
use Rattle.std.proofs.lemmas.List.{get_or-take, map-append, take_more, length-take}
use Rattle.std.proofs.lemmas.Result.{MatchResult-at_ok}
use Rattle.lists.specs.Lists.{listed}
use Rattle.gathering.specs.Spans.{spans}
use Rattle.gathering.specs.Writes.{places}
use Rattle.trying.specs.Trying.{placed}
use Rattle.gathering.proofs.Blank.{blank}
use Rattle.trying.proofs.Masked.{write_place, pushed_place}
use Rattle.trying.proofs.judge.placed.Goals as goal

pub loop-rank-preserved : goal.loop-rank-preserved
loop-rank-preserved c =
    let ws = c.args.writes.now in let ranks = c.args.ranks.now in let i = c.loop-rank.rank-index in
    let ps = places (spans ws) in
    let rank = get_or (take (length ws) ranks) i 0 in
    let within : i < length ws = omega (arith, length-take (length ws) ranks, c.loop-rank-test.true) in
    let there : i < length ranks = omega (arith, length-take (length ws) ranks, c.loop-rank-test.true) in
    let same : rank ≡ get_or ranks i 0 = get_or-take (length ws) ranks i 0 within in
    let bound : rank < length ws = subst (λ r. r < length ws) (sym same) (c.requires.1 i within) in
    let pushed = MatchResult-at_ok _ _ _ c.unwrap.ensures c.push.ensures in
    let here : get_or ps (get_or ranks i 0) 0 ≡ (get_or ws rank blank).place = ap (λ r. get_or ps r 0) (sym same) ∙ write_place ws rank blank bound in
    pushed_place (listed c.loop-rank.places) (get_or ps (get_or ranks i 0) 0) pushed.1 (omega (arith, here))
    ∙ ap (λ l. l ++ (get_or ps (get_or ranks i 0) 0 ∷ [])) c.loop-rank.invariant
    ∙ sym (ap (placed ps) (take_more ranks i 0 there) ∙ map-append (λ r. get_or ps r 0) (take i ranks) (get_or ranks i 0 ∷ []))
