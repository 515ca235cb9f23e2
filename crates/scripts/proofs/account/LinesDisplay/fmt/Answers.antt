use Rattle.std.proofs.Common.{◌≡◌, [], ◌++◌, ap, ◌∙◌, sym, append_assoc, append-nil, rules}
use Rattle.std.proofs.Output.{has_written_append, has_written_of_eq}
use Rattle.std.proofs.lemmas.Slice.Zip.{either_empty_from_Zip}
use Rattle.std.specs.Iterator.Adapters.{zip_first, zip_second}
use Rattle.std.specs.Slice.Iter.{iter_rest}
use Rattle.scripts.specs.Accounts.{line_words, lines_words}
use Rattle.scripts.proofs.Texts.{no_lines}
use Rattle.scripts.proofs.account.LinesDisplay.fmt.Goals as goal

pub loop-call-init : goal.loop-call-init
loop-call-init g c =
    let calls : iter_rest (zip_first c.into_iter-call-iterator.result) ≡ c.args.self.now.calls.now = search rules in
    let answers : iter_rest (zip_second c.into_iter-call-iterator.result) ≡ c.args.self.now.answers.now = search rules in
    ([], (λ i. lines_words g.V.Written.words (sym calls i) (sym answers i)), search rules)

pub loop-call-preserved : goal.loop-call-preserved
loop-call-preserved g c =
    let words = g.V.Written.words in
    let so_far = c.loop-call.invariant in
    let made = line_words words c.in-Some.call.now c.in-Some.answer.now in
    let more = c.in-Some.ensures.steps in
    let left = lines_words words (iter_rest (zip_first c.next.new.self)) (iter_rest (zip_second c.next.new.self)) in (
      so_far.0 ++ made,
      so_far.1 ∙ ((λ i. so_far.0 ++ lines_words words (more.0 i) (more.1 i)) ∙ sym (append_assoc so_far.0 made left)),
      λ plain. has_written_append _ _ _ _ _ _ (so_far.2 plain) (search rules),
    )

pub returns-clause-writes : goal.returns-clause-writes
returns-clause-writes g c =
    let words = g.V.Written.words in
    let so_far = c.loop-call.invariant in
    let s = c.loop-call.call-iterator in
    let none = no_lines words (iter_rest (zip_first s)) (iter_rest (zip_second s)) (either_empty_from_Zip s c.next.new.self c.next.result c.in-None.is c.next.ensures.steps) in
    λ plain done. has_written_of_eq _ _ _ _ _ (sym (so_far.1 ∙ (ap (λ left. so_far.0 ++ left) none ∙ append-nil so_far.0))) (so_far.2 plain)
