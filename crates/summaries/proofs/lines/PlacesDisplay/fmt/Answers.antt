use Rattle.std.proofs.Common.{sym, ap, rules, arith}
use Rattle.std.proofs.Output.{has_written_append, has_written_of_eq}
use Rattle.std.proofs.lemmas.List.{take_all}
use Rattle.summaries.specs.Summaries.{places_words}
use Rattle.summaries.proofs.Texts.{places_more}
use Rattle.summaries.proofs.lines.PlacesDisplay.fmt.Goals as goal

pub loop-place-preserved : goal.loop-place-preserved
loop-place-preserved g c plain =
    has_written_of_eq _ _ _ _ _ (sym (places_more c.args.self.now.places.now c.loop-place.place-index c.loop-place-test.true)) (has_written_append _ _ _ _ _ _ (c.loop-place.invariant plain) (search rules))

pub returns-clause-writes : goal.returns-clause-writes
returns-clause-writes g c plain ok =
    has_written_of_eq _ _ _ _ _ (ap places_words (take_all c.loop-place.place-index c.args.self.now.places.now (omega arith))) (c.loop-place.invariant plain)
