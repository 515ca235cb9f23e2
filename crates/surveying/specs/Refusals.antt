-- The number, place and layer of a survey's refusals. Assumes nothing.
use Rattle.operations.specs.declared.refusal.Layer.TheVariants.{Survey}
use Rattle.operations.specs.declared.refusal.Refusal.{Refusal}
use Rattle.operations.specs.Refusals.{refusal}
use Rattle.surveying.specs.declared.refusal.SurveyRefusal.{SurveyRefusal}
use Rattle.surveying.specs.declared.refusal.SurveyRefusal.TheVariants.{NoLimit, TooMany, TooManyWrites, WrittenTwice, Unwritten, Foreseen, OverLimit}

abbrev pub survey_refusal : SurveyRefusal → Refusal
survey_refusal (NoLimit limit) = refusal 9 limit Survey
survey_refusal (TooMany operations) = refusal 11 operations Survey
survey_refusal (TooManyWrites bay) = refusal 12 bay Survey
survey_refusal (WrittenTwice place) = refusal 13 place Survey
survey_refusal (Unwritten place) = refusal 14 place Survey
survey_refusal (Foreseen place) = refusal 15 place Survey
survey_refusal (OverLimit bay) = refusal 16 bay Survey
