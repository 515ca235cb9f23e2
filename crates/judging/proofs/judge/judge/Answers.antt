use Rattle.std.proofs.Common.{◌≡◌, ◌≤◌, ◌++◌, length, drop, Ok, Err, sym, ◌∙◌, subst, arith}
use Rattle.std.proofs.lemmas.List.{length-map}
use Rattle.std.proofs.lemmas.Result.{err_from_is_err_and, MatchResult-at_ok}
use Rattle.operations.specs.Rows.{AllValid}
use Rattle.relations.specs.Meanings.{meant, told}
use Rattle.judging.specs.Rows.{RowsJudged}
use Rattle.judging.proofs.Reporting.{refused_8, refused_10, refused_11, refused, reported}
use Rattle.judging.proofs.judge.judge.Goals as goal

pub unwrap-requires : goal.unwrap-requires
unwrap-requires g c =
    let few : length (g.S.Source.operations c.args.source.now) ≤ 512 = omega (arith, c.len-operations.ensures) in
    grind (arith, c.copy.ensures, few)

pub judge_rows-requires : goal.judge_rows-requires
judge_rows-requires g c =
    let source = c.args.source.now in
    let copied = MatchResult-at_ok _ _ _ c.unwrap.ensures c.copy.ensures in
    (omega arith, subst AllValid (sym (c.as_slice.ensures ∙ copied)) (g.S.Source.valid source))

pub returns-then-bay-from : goal.returns-then-bay-from
returns-then-bay-from g c = refused_8 (told g.S.Value.Kind.meaning (g.S.Source.operations c.args.source.now)) c.args.bay c.args.limit c.args.sheet.now (omega arith)

pub returns-then-entries-lt-MOST_WRITES : goal.returns-then-entries-lt-MOST_WRITES
returns-then-entries-lt-MOST_WRITES g c = refused_10 (told g.S.Value.Kind.meaning (g.S.Source.operations c.args.source.now)) c.args.bay c.args.limit c.args.sheet.now (omega arith) (omega arith) (omega arith) c.if-entries-lt-MOST_WRITES.true

pub returns-then-operations-gt-MOST_OPERATIONS : goal.returns-then-operations-gt-MOST_OPERATIONS
returns-then-operations-gt-MOST_OPERATIONS g c =
    let rows = g.S.Source.operations c.args.source.now in
    refused_11 (told g.S.Value.Kind.meaning rows) c.args.bay c.args.limit c.args.sheet.now (omega arith) (omega arith) (omega arith) (omega arith) c.len-operations.result (c.len-operations.ensures ∙ sym (length-map rows (meant g.S.Value.Kind.meaning))) c.if-operations-gt-MOST_OPERATIONS.true

pub returns-in_err-found : goal.returns-in_err-found
returns-in_err-found g c =
    let meaning = g.S.Value.Kind.meaning in
    let rows = g.S.Source.operations c.args.source.now in
    let short : length (told meaning rows) ≤ 512 = omega (arith, length-map rows (meant meaning), c.len-operations.ensures) in
    let copied = MatchResult-at_ok _ _ _ c.unwrap.ensures c.copy.ensures in
    let p = err_from_is_err_and c.from_residual.result c.from_residual.ensures.1 in
    rw (p.1, p.2)
    (refused (told meaning rows) c.args.bay c.args.limit c.args.sheet.now (omega arith) (omega arith) (omega arith) (omega arith) short c.in_err-found.field-0.0
    (subst (λ l. RowsJudged (told meaning l) c.args.bay c.args.limit (Err c.in_err-found.field-0.0)) (c.as_slice.ensures ∙ copied) c.in_err-found.ensures))

pub returns : goal.returns
returns g c =
    let meaning = g.S.Value.Kind.meaning in
    let rows = g.S.Source.operations c.args.source.now in
    let short : length (told meaning rows) ≤ 512 = omega (arith, length-map rows (meant meaning), c.len-operations.ensures) in
    let copied = MatchResult-at_ok _ _ _ c.unwrap.ensures c.copy.ensures in
    rw c.len.ensures
    (reported (told meaning rows) c.args.bay c.args.limit c.args.sheet.now (omega arith) (omega arith) (omega arith) (omega arith) short c.in_ok-found.found c.fill.new.sheet
    (subst (λ l. RowsJudged (told meaning l) c.args.bay c.args.limit (Ok c.in_ok-found.found)) (c.as_slice.ensures ∙ copied) c.in_ok-found.ensures)
    (subst (λ order. c.fill.new.sheet ≡ order ++ drop (length order) c.args.sheet.now) c.as_slice-2.ensures.value c.fill.ensures))
