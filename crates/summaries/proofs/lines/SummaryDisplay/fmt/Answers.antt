use Rattle.std.proofs.Common.{[], ◌++◌, get_or, sym, ap, ◌∙◌, append-nil, refl, rules, arith}
use Rattle.std.proofs.Output.{has_written_append, has_written_of_eq}
use Rattle.std.proofs.lemmas.List.{at_drop_more, at_drop_all}
use Rattle.surveying.specs.declared.finding.Finding.{Finding}
use Rattle.surveying.specs.Words.{report_words}
use Rattle.summaries.specs.Summaries.{all_writes, bay_words, findings_words}
use Rattle.summaries.proofs.Texts.{next_line}
use Rattle.summaries.proofs.lines.SummaryDisplay.fmt.Goals as goal

-- what stands where a slice has no finding
no_finding : Finding
no_finding = record { bay = 0; age = 0; writes = 0 }

pub split_at-requires : goal.split_at-requires
unfolding no_finding
split_at-requires g c = omega (arith, at_drop_more all_writes c.args.self.now.findings.now c.loop-finding.finding-index no_finding c.loop-finding-test.true, c.loop-finding.invariant.0)

pub loop-finding-init : goal.loop-finding-init
loop-finding-init g c = (c.args.self.now.fit, ([], refl, λ plain. search rules))

pub loop-finding-preserved : goal.loop-finding-preserved
unfolding no_finding
loop-finding-preserved g c =
    let findings = c.args.self.now.findings.now in let i = c.loop-finding.finding-index in let rest = c.loop-finding.rest.now in
    let so_far = c.loop-finding.invariant.1 in
    let order = c.split_at.result.0.now in
    let found = get_or findings i no_finding in (
      omega (arith, at_drop_more all_writes findings i no_finding c.loop-finding-test.true, c.loop-finding.invariant.0, c.split_at.ensures.back_len),
      (
        so_far.0 ++ bay_words found.bay found.age order,
        next_line findings i no_finding so_far.0 (bay_words found.bay found.age order) order c.split_at.result.1.now rest (findings_words findings c.args.self.now.orders.now) c.loop-finding-test.true so_far.1 refl c.split_at.ensures.front c.split_at.ensures.back,
        λ plain. has_written_append _ _ _ _ _ _ (so_far.2 plain) (search rules),
      ),
    )

pub returns-clause-writes : goal.returns-clause-writes
returns-clause-writes g c plain ok =
    let findings = c.args.self.now.findings.now in
    let so_far = c.loop-finding.invariant.1 in
    let ended = at_drop_all (λ l. findings_words l c.loop-finding.rest.now) findings c.loop-finding.finding-index c.loop-finding-test.false in
    let whole = sym (append-nil so_far.0) ∙ ap (λ l. so_far.0 ++ l) (sym ended) ∙ so_far.1 in
    let first = c.in_ok-fmt.ensures.writes plain refl in
    has_written_of_eq _ _ _ _ _ (ap (λ l. report_words c.args.self.now.report ++ l) whole) (has_written_append _ _ _ _ _ _ first (so_far.2 first.plain))
