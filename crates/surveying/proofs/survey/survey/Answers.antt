use Rattle.std.proofs.Common.{◌≡◌, ◌≤◌, length, sym, ap, ◌∙◌, subst, inl, inr, ⊎_elim, arith}
use Rattle.std.proofs.lemmas.Result.{err_from_is_err_and, MatchResult-at_ok}
use Rattle.operations.specs.Rows.{AllValid}
use Rattle.relations.specs.Meanings.{told}
use Rattle.surveying.specs.Faults.{Spared}
use Rattle.surveying.proofs.Surveyed.{surveyed_9, surveyed_11, surveyed_refused, surveyed_judged}
use Rattle.surveying.proofs.survey.survey.Goals as goal

pub unwrap-requires : goal.unwrap-requires
unwrap-requires g c =
    let few : length (g.S.Source.operations c.args.source.now) ≤ 512 = omega (arith, c.len-operations.ensures) in
    grind (arith, c.copy.ensures, few)

pub spare-requires : goal.spare-requires
spare-requires g c =
    let copied = MatchResult-at_ok _ _ _ c.unwrap.ensures c.copy.ensures in
    subst AllValid (sym (c.as_slice.ensures ∙ copied)) (g.S.Source.valid c.args.source.now)

pub judge_bays-requires : goal.judge_bays-requires
judge_bays-requires g c =
    let again : c.as_slice.result.now ≡ c.as_slice-2.result.now = c.as_slice.ensures ∙ sym c.as_slice-2.ensures in
    let copied = MatchResult-at_ok _ _ _ c.unwrap.ensures c.copy.ensures in
    let long = ap length (c.as_slice-2.ensures ∙ copied) in (
      omega (arith, long, c.len-operations.ensures),
      record {
        valid = subst AllValid (sym (c.as_slice-2.ensures ∙ copied)) (g.S.Source.valid c.args.source.now);
        spared = subst (λ l. Spared (told g.S.Value.Kind.meaning l)) again c.in_ok-spare.ensures;
      },
    )

pub returns-then-limit-eq0 : goal.returns-then-limit-eq0
returns-then-limit-eq0 g c =
    let source = c.args.source.now in
    surveyed_9 g.S.Value.Kind.meaning (g.S.Source.operations source) (g.S.Source.valid source) c.args.limit _ _ (⊎_elim (λ none. inl none) (λ past. inr past.1) c.then-limit-eq0.either)

pub returns-then-operations-gt-MOST_OPERATIONS : goal.returns-then-operations-gt-MOST_OPERATIONS
returns-then-operations-gt-MOST_OPERATIONS g c =
    let source = c.args.source.now in
    surveyed_11 g.S.Value.Kind.meaning (g.S.Source.operations source) (g.S.Source.valid source) c.args.limit _ _ (omega arith) (omega arith) c.len-operations.result c.len-operations.ensures c.if-operations-gt-MOST_OPERATIONS.true

pub returns-in_err-spare : goal.returns-in_err-spare
returns-in_err-spare g c =
    let source = c.args.source.now in
    let copied = MatchResult-at_ok _ _ _ c.unwrap.ensures c.copy.ensures in
    let p = err_from_is_err_and c.from_residual.result c.from_residual.ensures.1 in
    rw (p.1, p.2)
    (surveyed_refused g.S.Value.Kind.meaning (g.S.Source.operations source) (g.S.Source.valid source) c.args.limit _ _ (omega arith) (omega arith) (omega (arith, c.len-operations.ensures)) c.as_slice.result.now (c.as_slice.ensures ∙ copied) c.in_err-spare.field-0.0 c.in_err-spare.ensures)

pub returns : goal.returns
returns g c =
    let source = c.args.source.now in
    let again : c.as_slice.result.now ≡ c.as_slice-2.result.now = c.as_slice.ensures ∙ sym c.as_slice-2.ensures in
    let copied = MatchResult-at_ok _ _ _ c.unwrap.ensures c.copy.ensures in
    surveyed_judged g.S.Value.Kind.meaning (g.S.Source.operations source) (g.S.Source.valid source) c.args.limit _ _ (omega arith) (omega arith) (omega (arith, c.len-operations.ensures)) c.as_slice-2.result.now (c.as_slice-2.ensures ∙ copied) c.judge_bays.result
    (subst (λ l. Spared (told g.S.Value.Kind.meaning l)) again c.in_ok-spare.ensures) c.judge_bays.ensures
