use Rattle.std.proofs.Common.{◌≡◌, true, filter, sym, ap, ◌∙◌, arith}
use Rattle.std.specs.List.{slice_get}
use Rattle.operations.specs.Passes.{coming}
use Rattle.leaving.specs.Leaving.{keeps}
use Rattle.leaving.proofs.Steps.{shown_here, shown_on, passed_on}
use Rattle.leaving.proofs.without.WithoutSource.at.Goals as goal

pub returns-then-passed-place : goal.returns-then-passed-place
returns-then-passed-place g c =
    let mask = c.args.self.now.mask in
    let test : keeps mask c.in-Some.operation.row ≡ true = cc in
    let shown = filter (keeps mask) (g.S.Source.operations c.args.self.now.below.now) in
    ap (slice_get shown) (sym c.if-passed-place.true)
    ∙ shown_here (keeps mask) (coming g.S.Source.onward c.loop-operation.operation-iterator) _ _ c.in-Some.ensures.steps test shown _ c.loop-operation.invariant.2

pub loop-operation-preserved-then-shows : goal.loop-operation-preserved-then-shows
loop-operation-preserved-then-shows g c =
    let mask = c.args.self.now.mask in
    let test : keeps mask c.in-Some.operation.row ≡ true = cc in
    let left = coming g.S.Source.onward c.loop-operation.operation-iterator in
    let shown = filter (keeps mask) (g.S.Source.operations c.args.self.now.below.now) in
    let here = c.in-Some.ensures.steps in
    (omega arith, passed_on (keeps mask) left _ _ here test shown _ c.loop-operation.invariant.1, shown_on (keeps mask) left _ _ here test shown _ c.loop-operation.invariant.2)
