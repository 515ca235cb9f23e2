use Rattle.std.proofs.Common.{sym, rules}
use Rattle.std.proofs.Output.{has_written_append, has_written_of_eq}
use Rattle.replaying.proofs.Texts.{numbers_more}
use Rattle.replaying.proofs.words.CallDisplay.fmt.Goals as goal

pub loop-bay-preserved : goal.loop-bay-preserved
loop-bay-preserved g c = λ plain.
    has_written_of_eq _ _ _ _ _ (sym (numbers_more _ c.loop-bay.bay-index 0 c.loop-bay-test.true)) (has_written_append _ _ _ _ _ _ (c.loop-bay.invariant plain) (search rules))
