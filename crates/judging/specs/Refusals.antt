-- The number, place and layer of a judge's refusals. Assumes nothing.
use Rattle.operations.specs.declared.refusal.Layer.TheVariants.{Judge}
use Rattle.operations.specs.declared.refusal.Refusal.{Refusal}
use Rattle.operations.specs.Refusals.{refusal}
use Rattle.judging.specs.declared.refusal.JudgeRefusal.{JudgeRefusal}
use Rattle.judging.specs.declared.refusal.JudgeRefusal.TheVariants.{NoBay, NoLimit, ShortSheet, TooMany, TooManyWrites, WrittenTwice, Unwritten, Foreseen, OverLimit}

abbrev pub judge_refusal : JudgeRefusal → Refusal
judge_refusal (NoBay bay) = refusal 8 bay Judge
judge_refusal (NoLimit limit) = refusal 9 limit Judge
judge_refusal (ShortSheet entries) = refusal 10 entries Judge
judge_refusal (TooMany operations) = refusal 11 operations Judge
judge_refusal (TooManyWrites bay) = refusal 12 bay Judge
judge_refusal (WrittenTwice place) = refusal 13 place Judge
judge_refusal (Unwritten place) = refusal 14 place Judge
judge_refusal (Foreseen place) = refusal 15 place Judge
judge_refusal (OverLimit bay) = refusal 16 bay Judge
