use Rattle.std.proofs.Common.{◌≡◌, false, arith}
use Rattle.operations.specs.Passes.{coming}
use Rattle.leaving.specs.Leaving.{keeps}
use Rattle.leaving.proofs.Steps.{still_counted, counted_on}
use Rattle.leaving.proofs.without.WithoutSource.len.Goals as goal

pub overflow_sub-count : goal.overflow_sub-count
overflow_sub-count g c =
    let test : keeps c.args.self.now.mask c.in-Some.operation.row ≡ false = cc in
    still_counted (keeps c.args.self.now.mask) (coming g.S.Source.onward c.loop-operation.operation-iterator) (coming g.S.Source.onward c.next.new.self) c.in-Some.operation.row c.in-Some.ensures.steps test _ _ c.loop-operation.invariant

pub loop-operation-preserved-then-not-shows : goal.loop-operation-preserved-then-not-shows
loop-operation-preserved-then-not-shows g c =
    let test : keeps c.args.self.now.mask c.in-Some.operation.row ≡ false = cc in
    let counted = counted_on (keeps c.args.self.now.mask) (coming g.S.Source.onward c.loop-operation.operation-iterator) (coming g.S.Source.onward c.next.new.self) c.in-Some.operation.row c.in-Some.ensures.steps test _ _ c.loop-operation.invariant in
    grind arith
