use Rattle.std.proofs.Common.{◌≡◌, ℕ, ◌≤◌, true, [], length, vec_items, vec_len, vec_capacity}
use Rattle.logs.specs.Stands.{Leads}
use Rattle.logs.specs.States.{state_of}
use Rattle.replaying.specs.Runs.{Reached, records}
use Rattle.replaying.specs.Surveys.{survey_rule}
use Rattle.replaying.proofs.replay.run.Given as goal

abbrev pub invariant-loop-call : goal.invariant-loop-call
invariant-loop-call g l =
    (vec_capacity l.answers ≡ vec_capacity l.initial.answers) × (length l.script ≤ vec_capacity l.answers) × (vec_len l.answers ≡ l.call-index)
    × ((first entries : ℕ) → Leads (survey_rule g.V.Kind.meaning) first entries [] (state_of l.initial.storage) → records l.initial.log ≡ true →
    Reached (survey_rule g.V.Kind.meaning) first entries l.script (vec_items l.answers) (state_of l.storage) (records l.log))
