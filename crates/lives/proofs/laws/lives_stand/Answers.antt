use Rattle.lives.proofs.Law.{lives_lawful}
use Rattle.lives.proofs.laws.lives_stand.Goals as goal

pub returns : goal.returns
returns g c = lives_lawful g.S.SurveyRule.answers
