use Rattle.std.proofs.Common.{vec_items, refl, arith}
use Rattle.std.proofs.lemmas.Bool.{true≢false}
use Rattle.logs.specs.States.{state_of}
use Rattle.replaying.specs.Runs.{records}
use Rattle.replaying.specs.Surveys.{survey_rule}
use Rattle.replaying.proofs.Running.{just_opened, transcript}
use Rattle.replaying.proofs.replay.replay.Goals as goal

pub returns : goal.returns
returns g c =
    let rule = survey_rule g.V.Kind.meaning in
    let s = state_of c.args.storage.now in
    let opened = c.in_ok-log.ensures in
    let led = just_opened rule c.args.first s (state_of c.open.new.storage) opened.answer.2 opened.life in
    record {
      life = (omega arith, transcript rule c.args.first s.entries c.args.script.now (state_of c.run.new.storage) (records c.run.result) (vec_items c.run.new.answers) (c.run.ensures.ran c.args.first s.entries led refl));
      places = refl;
      untouched = λ refused. absurd (true≢false refused);
    }
