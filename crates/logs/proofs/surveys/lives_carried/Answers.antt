use Rattle.logs.proofs.Surveying.{carried}
use Rattle.logs.proofs.surveys.lives_carried.Goals as goal

pub returns : goal.returns
returns g c = carried g.S.SurveyRule.answers
