-- Tickets from other logs. Assumes nothing.
use Rattle.std.proofs.Common.{◌≡◌, ℕ, true, false, Some, None, sym, ap, ◌∙◌, arith}
use Rattle.std.proofs.lemmas.Bool.Decides.{nat_tests}
use Rattle.operations.specs.Checks.{first_failed}
use Rattle.lives.specs.Rules.{tally, begin_checks}
use Rattle.lives.specs.declared.refusal.LogRefusal.{LogRefusal}
use Rattle.logs.specs.Cabinets.{is_idle}
use Rattle.logs.specs.States.{State, opened_at}
use Rattle.logs.specs.Steps.{open_refusal, begin_refusal}
use Rattle.logs.specs.declared.ticket_name.TicketName.{TicketName}
use Rattle.logs.proofs.Holding.{idle_replicate}
use Rattle.replaying.specs.Tickets.{issued}

-- a begin on a log with one entry that was just opened is refused only where no log could hand out its ticket
begin_refused : (name : TicketName) (e : LogRefusal) → open_refusal name.begun ≡ None → first_failed (begin_checks (tally 0 0 name.begun 1) name.cabinet 0 true) ≡ Some e → issued name ≡ false
begin_refused name e opened refused = grind (arith, nat_tests)

pub not_issued : {V : Type 0} (s : State V) (name : TicketName) (e : LogRefusal) → open_refusal name.begun ≡ None → s ≡ opened_at name.begun 1 → begin_refusal s name.cabinet 0 ≡ Some e → issued name ≡ false
not_issued {V} s name e opened is refused =
    begin_refused name e opened
    (sym (ap (λ c. first_failed (begin_checks (tally 0 0 name.begun 1) name.cabinet 0 (is_idle c))) (idle_replicate 64 name.cabinet)) ∙ (sym (ap (λ x. begin_refusal {V = V} x name.cabinet 0) is) ∙ refused))
