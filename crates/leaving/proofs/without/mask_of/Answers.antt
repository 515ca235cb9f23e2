use Rattle.std.proofs.Common.{◌<◌, ◌≤◌, length, get_or, subst, arith, take_all, rules, below_more}
use Rattle.leaving.specs.Leaving.{MaskOf}
use Rattle.leaving.proofs.Masks.{mask_more}
use Rattle.leaving.proofs.without.mask_of.Goals as goal

pub loop-place-preserved : goal.loop-place-preserved
loop-place-preserved c =
    let xs = c.args.bays.now in let i = c.loop-place.place in
    let lt : i < length xs = search rules in
    let small : get_or xs i 0 ≤ 63 = search rules in
    (omega arith, below_more (λ k. get_or xs k 0 ≤ 63) i c.loop-place.invariant.1 small, mask_more xs i c.loop-place.mask c.with_bit-mask.result lt small c.loop-place.invariant.2 (search rules))

pub returns : goal.returns
returns c =
    let xs = c.args.bays.now in
    let h : length xs ≤ c.loop-place.place = search rules in
    (λ k lt. c.loop-place.invariant.1 k (omega arith), subst (λ ys. MaskOf ys c.loop-place.mask) (take_all c.loop-place.place xs h) c.loop-place.invariant.2)
