use Rattle.std.proofs.Common.{◌≤◌, length, set, sym, ap, ◌∙◌, arith}
use Rattle.std.proofs.lemmas.List.{length-take-le}
use Rattle.std.proofs.Math.Seq.{take-set-lt}
use Rattle.lists.specs.Lists.{first}
use Rattle.lists.proofs.array.ArrayList.set.Goals as goal

pub returns-in-Some : goal.returns-in-Some
returns-in-Some g c =
    let len = c.args.self.now.len in
    let places = c.in-Some.places in
    let was = ap (first len) c.in-Some.is in
    let full : len ≤ length places = omega (arith, c.args.self.now.filled places c.in-Some.is, c.args.self.now.few) in
    (omega (arith, ap length was, length-take-le len places full, c.if-place-self.true), take-set-lt len places c.args.place c.args.element c.if-place-self.true ∙ ap (λ l. set l c.args.place c.args.element) (sym was))
