use Rattle.std.proofs.Common.{◌≡◌, length, get_or, vec_items, sym, ap, ◌∙◌, subst, arith}
use Rattle.logs.specs.States.{state_of}
use Rattle.replaying.specs.Runs.{Reached, Steps, records}
use Rattle.replaying.specs.Surveys.{survey_rule}
use Rattle.replaying.proofs.Running.{reached_none, reached_more, ran_on, ran_all}
use Rattle.replaying.proofs.replay.run.Goals as goal

pub loop-call-init : goal.loop-call-init
loop-call-init g c =
    let empty = c.args.answers.now in (
      omega arith,
      c.requires.room,
      omega (arith, empty.ok.0, ap length c.requires.empty),
      λ first entries led recording.
          subst (λ phase. Reached (survey_rule g.V.Kind.meaning) first entries c.args.script.now (vec_items empty) (state_of c.args.storage.now) phase) (sym recording)
          (reached_none (survey_rule g.V.Kind.meaning) first entries c.args.script.now (state_of c.args.storage.now) (vec_items empty) c.requires.empty led),
    )

pub push_reserved-requires : goal.push_reserved-requires
push_reserved-requires g c = omega (arith, c.loop-call.invariant.1, c.loop-call.invariant.2, c.loop-call-test.true)

pub loop-call-preserved : goal.loop-call-preserved
loop-call-preserved g c =
    let rule = survey_rule g.V.Kind.meaning in
    let script = c.args.script.now in
    let was = c.loop-call.answers in
    let s = state_of c.loop-call.storage in
    let t = state_of c.step-next.new.storage in
    let before = records c.loop-call.log in
    let after = records c.step-next.result.log in
    let call = c.call-item.result in
    let pushed = c.push_reserved.ensures in
    let index : c.loop-call.call-index ≡ length (vec_items was) = omega (arith, was.ok.0, c.loop-call.invariant.2) in
    let goes = subst (λ answer. Steps rule before after s t call answer) c.in-Some.is c.step-next.ensures in (
      pushed.capacity ∙ c.loop-call.invariant.0,
      omega (arith, pushed.capacity, c.loop-call.invariant.1),
      omega (arith, pushed.len, c.loop-call.invariant.2),
      λ first entries led recording.
          reached_more rule first entries script s t before after call c.in-Some.answer (vec_items was) (vec_items c.push_reserved.new.self) pushed.items
          (omega (arith, index, c.loop-call-test.true)) (c.call-item.is ∙ ap (λ n. get_or script n call) index) goes (c.loop-call.invariant.3 first entries led recording),
    )

pub returns-in_default-clause-ran : goal.returns-in_default-clause-ran
returns-in_default-clause-ran g c first entries led recording =
    let rule = survey_rule g.V.Kind.meaning in
    let script = c.args.script.now in
    let was = c.loop-call.answers in
    let s = state_of c.loop-call.storage in
    let t = state_of c.step-next.new.storage in
    let before = records c.loop-call.log in
    let after = records c.step-next.result.log in
    let call = c.call-item.result in
    let index : c.loop-call.call-index ≡ length (vec_items was) = omega (arith, was.ok.0, c.loop-call.invariant.2) in
    let stays = subst (λ answer. Steps rule before after s t call answer) c.in_default.is c.step-next.ensures in
    ran_on rule first entries script s t before after call (vec_items was) (omega (arith, index, c.loop-call-test.true)) (c.call-item.is ∙ ap (λ n. get_or script n call) index) stays (c.loop-call.invariant.3 first entries led recording)

pub returns : goal.returns
returns g c =
    let was = c.loop-call.answers in
    record {
      ran = λ first entries led recording.
          ran_all (survey_rule g.V.Kind.meaning) first entries c.args.script.now (state_of c.loop-call.storage) (records c.loop-call.log) (vec_items was)
          (omega (arith, was.ok.0, c.loop-call.invariant.2)) (c.loop-call.invariant.3 first entries led recording);
      room = c.loop-call.invariant.0;
    }
