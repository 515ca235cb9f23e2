use Rattle.std.proofs.Common.{◌≡◌, ◌∷◌, ◌++◌, ◌∙◌, [], map, length, codes, decimal, refl, ap, rules, arith}
use Rattle.std.proofs.Output.{has_written_append, has_written_of_eq}
use Rattle.std.proofs.lemmas.List.{map-append, length_push}
use Rattle.operations.specs.Passes.{coming}
use Rattle.operations.proofs.Passes.{copy_more, copy_all}
use Rattle.reports.specs.Accounts.{rows_words}
use Rattle.reports.proofs.Texts.{line_more}
use Rattle.reports.proofs.lines.OperationsDisplay.fmt.Goals as goal

pub loop-place-preserved : goal.loop-place-preserved
loop-place-preserved g c =
    let yielded = c.loop-place.yielded in
    let left = coming g.S.Source.onward in
    let step = c.in-Some.ensures.steps in
    let at : c.in-Some.place ≡ length yielded = step.1 ∙ c.loop-place.invariant.0 in (
      omega (arith, length_push yielded (c.in-Some.place, c.in-Some.operation), step.2, at, step.1),
      copy_more (map (λ line. line.1.row) yielded) (left c.loop-place.place-iterator.iter) (g.S.Source.operations c.args.self.now.source.now) c.loop-place.invariant.1 _ (left c.next.new.self.iter) c.in-Some.operation.row _ step.0 refl (map-append (λ line. line.1.row) yielded ((c.in-Some.place, c.in-Some.operation) ∷ [])),
      λ plain. has_written_of_eq _ _ _ _ _ (line_more g.S.Value.Written.words (λ line. line.1.row) yielded (c.in-Some.place, c.in-Some.operation) c.in-Some.place c.row-row.result at c.row-row.ensures) (has_written_append _ _ _ _ _ _ (c.loop-place.invariant.2 plain) (search rules)),
    )

pub returns-clause-writes : goal.returns-clause-writes
returns-clause-writes g c plain ok =
    let words = g.S.Value.Written.words in
    let rows = g.S.Source.operations c.args.self.now.source.now in
    let told = map (λ line. line.1.row) c.loop-place.yielded in
    let lines = c.loop-place.invariant.2 plain in
    let whole : told ≡ rows = copy_all told (coming g.S.Source.onward c.loop-place.place-iterator.iter) rows c.loop-place.invariant.1 c.in-None.ensures.steps.0.0 in
    has_written_of_eq _ _ _ _ _ (ap (λ xs. rows_words words 0 xs ++ (codes "kept " ++ decimal c.len-count.result)) whole ∙ ap (λ n. rows_words words 0 rows ++ (codes "kept " ++ decimal n)) c.len-count.ensures)
    (has_written_append _ _ _ _ _ _ lines (c.write-2.ensures.writes lines.plain ok))
