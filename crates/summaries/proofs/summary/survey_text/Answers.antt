use Rattle.std.proofs.Common.{◌≡◌, ◌≤◌, ◌++◌, length, string_bytes, sym, ap, ◌∙◌, subst, ap₂, subst₂}
use Rattle.relations.specs.Meanings.{told}
use Rattle.surveying.specs.Desks.{desk_findings, desk_orders}
use Rattle.surveying.specs.Surveyed.{Surveyed}
use Rattle.surveying.specs.Words.{report_words}
use Rattle.summaries.specs.Summaries.{all_writes, findings_words}
use Rattle.summaries.proofs.Told.{writes_fit, report_said}
use Rattle.summaries.proofs.summary.survey_text.Goals as goal

pub invariant_of-summary : goal.invariant_of-summary
invariant_of-summary g c =
    let meaning = g.S.Value.Kind.meaning in let source = c.args.source.now in let rows = g.S.Source.operations source in
    let desk = c.survey.new.desk in
    let surveyed = subst (Surveyed (told meaning rows) c.args.limit (desk_findings desk) (desk_orders desk)) c.in-Ok.is c.survey.ensures in
    record { fit = subst₂ (λ findings orders. all_writes findings ≤ length orders) (sym c.findings.ensures) (sym c.orders.ensures) (writes_fit meaning rows (g.S.Source.valid source) c.args.limit (desk_findings desk) (desk_orders desk) c.in-Ok.report surveyed) }

pub returns : goal.returns
returns g c =
    let meaning = g.S.Value.Kind.meaning in let source = c.args.source.now in let rows = g.S.Source.operations source in
    let desk = c.survey.new.desk in let report = c.in-Ok.report in
    let surveyed = subst (Surveyed (told meaning rows) c.args.limit (desk_findings desk) (desk_orders desk)) c.in-Ok.is c.survey.ensures in
    let said : string_bytes c.in_ok-text.text ≡ report_words report ++ findings_words c.findings.result.now c.orders.result.now = c.in_ok-text.ensures.ok in (
      report,
      sym surveyed.decided,
      said ∙ ap (λ l. report_words report ++ l) (ap₂ findings_words c.findings.ensures c.orders.ensures)
          ∙ report_said meaning rows (g.S.Source.valid source) c.args.limit (desk_findings desk) (desk_orders desk) report surveyed,
    )
