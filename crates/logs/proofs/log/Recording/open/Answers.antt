use Rattle.std.proofs.Common.{◌≡◌, None, sym, ap, ◌∙◌, rules}
use Rattle.lives.specs.Life.{any_answer}
use Rattle.logs.specs.States.{state_of, opened_at}
use Rattle.logs.specs.Steps.{open_refusal}
use Rattle.logs.proofs.Carrying.{opened_leads}
use Rattle.logs.proofs.log.Recording.open.Goals as goal

pub returns-clause-life : goal.returns-clause-life
returns-clause-life g c =
    let t = state_of c.reset.new.self in
    let e = c.reset.ensures in
    let passed : open_refusal c.args.first ≡ None = search rules in
    opened_leads any_answer t c.args.first t.entries passed (e ∙ ap (opened_at c.args.first) (sym (ap (λ x. x.entries) e)))
