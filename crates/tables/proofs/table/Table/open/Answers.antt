use Rattle.std.proofs.Common.{◌≡◌, ℕ, ◌+◌, ◌*◌, ◌<◌, ◌≤◌, List, [], ◌∷◌, ◌++◌, length, get_or, Some, None, Ok, Err, sym, ap, ◌∙◌, subst, arith}
use Rattle.std.proofs.lemmas.List.{length_push}
use Rattle.std.proofs.lemmas.Option.{MatchOption-at_some}
use Rattle.std.proofs.lemmas.Result.{err_from_is_err_and}
use Rattle.operations.specs.Rooms.{held, Pushed}
use Rattle.operations.specs.declared.row.Row.{Row}
use Rattle.operations.specs.Checks.{first_failed, each_below}
use Rattle.words.specs.Reading.{Handed}
use Rattle.tables.specs.declared.refusal.TableRefusal.TheVariants.{Words}
use Rattle.tables.specs.Records.{RecordAt, value_checks, record_checks}
use Rattle.tables.specs.Refusals.{table_refusal}
use Rattle.operations.proofs.Checks.{each_passed, each_push}
use Rattle.tables.proofs.Tables.{handed_here, handed_row, twelve, record_holds, record_passes, value_fails, word_fails, table_fails, table_passes}
use Rattle.tables.proofs.table.Table.open.Goals as goal

pub returns-in_err-found : goal.returns-in_err-found
returns-in_err-found g c =
    let reads = g.K.Kind.reads in let bytes = c.args.bytes.now in let rows = c.loop-rows.rows in let words = c.loop-rows.words in
    let inv = c.loop-rows.invariant in let i = length (held rows) in let wrong = c.in_err-found.field-0.0 in
    let h : Handed bytes (3 * i) c.next_record.new.self.word (Err wrong) = handed_here words.bytes.now bytes words.word i c.next_record.new.self.word inv.0 inv.1 (Err wrong) c.in_err-found.ensures.handed in
    let short : length bytes ≤ 6144 = omega arith in
    let even = c.if-bytes-ne0.false in
    let fails = table_fails reads bytes short even i (table_refusal (Words wrong)) (omega (arith, h.0)) inv.2 (word_fails reads bytes i wrong.word h.1) in
    let p = err_from_is_err_and c.from_residual.result c.from_residual.ensures.1 in
    rw (p.1, p.2) fails

pub unwrap-row-requires : goal.unwrap-row-requires
unwrap-row-requires g c =
    let bytes = c.args.bytes.now in let words = c.loop-rows.words in let found = c.in-Some.found in
    let inv = c.loop-rows.invariant in let i = length (held c.loop-rows.rows) in let w' = c.next_record.new.self.word in
    let handed : Handed words.bytes.now words.word w' (Ok (Some found)) = subst (λ o. Handed words.bytes.now words.word w' (Ok o)) c.in-Some.is c.in_ok-found.ensures.handed in
    let h : Handed bytes (3 * i) w' (Ok (Some found)) = handed_here words.bytes.now bytes words.word i w' inv.0 inv.1 (Ok (Some found)) handed in
    let whole = twelve bytes (3 * i) found h.0 h.2 in
    grind (arith, c.row.ensures, whole)

pub returns-in_err-valued : goal.returns-in_err-valued
returns-in_err-valued g c =
    let reads = g.K.Kind.reads in let bytes = c.args.bytes.now in let words = c.loop-rows.words in let found = c.in-Some.found in
    let inv = c.loop-rows.invariant in let i = length (held c.loop-rows.rows) in let w' = c.next_record.new.self.word in
    let handed : Handed words.bytes.now words.word w' (Ok (Some found)) = subst (λ o. Handed words.bytes.now words.word w' (Ok o)) c.in-Some.is c.in_ok-found.ensures.handed in
    let h : Handed bytes (3 * i) w' (Ok (Some found)) = handed_here words.bytes.now bytes words.word i w' inv.0 inv.1 (Ok (Some found)) handed in
    let row = c.unwrap-row.result in let refused = c.in_err-valued.field-0.0 in
    let short : length bytes ≤ 6144 = omega arith in
    let made = handed_row bytes (3 * i) found row h.2 (MatchOption-at_some _ _ _ c.unwrap-row.ensures c.row.ensures) in
    let wrong = subst (λ place. first_failed (value_checks reads row place) ≡ Some (table_refusal refused)) c.len.ensures c.in_err-valued.ensures in
    let fails = table_fails reads bytes short c.if-bytes-ne0.false i (table_refusal refused) (omega (arith, h.0)) inv.2 (value_fails reads bytes i found row h.1 h.2 made (table_refusal refused) wrong) in
    let p = err_from_is_err_and c.from_residual-in_err-valued.result c.from_residual-in_err-valued.ensures.1 in
    rw (p.1, p.2) fails

pub loop-rows-preserved : goal.loop-rows-preserved
loop-rows-preserved g c =
    let reads = g.K.Kind.reads in let bytes = c.args.bytes.now in let words = c.loop-rows.words in let found = c.in-Some.found in
    let inv = c.loop-rows.invariant in let rows = held c.loop-rows.rows in let i = length rows in let w' = c.next_record.new.self.word in
    let handed : Handed words.bytes.now words.word w' (Ok (Some found)) = subst (λ o. Handed words.bytes.now words.word w' (Ok o)) c.in-Some.is c.in_ok-found.ensures.handed in
    let h : Handed bytes (3 * i) w' (Ok (Some found)) = handed_here words.bytes.now bytes words.word i w' inv.0 inv.1 (Ok (Some found)) handed in
    let row = c.unwrap-row.result in let v = c.in_ok-valued.field-0 in
    let made = handed_row bytes (3 * i) found row h.2 (MatchOption-at_some _ _ _ c.unwrap-row.ensures c.row.ensures) in
    let pushed : held c.push.new.self ≡ rows ++ (v ∷ []) = subst (Pushed rows v (held c.push.new.self)) c.unwrap.ensures c.push.ensures in
    let more : length (held c.push.new.self) ≡ i + 1 = ap length pushed ∙ length_push rows v in
    let passes = each_passed (record_checks reads bytes) i inv.2 (record_passes reads bytes i found row h.1 h.2 made v c.in_ok-valued.ensures) in
    let holds = record_holds reads bytes i found row h.1 h.2 made v c.in_ok-valued.ensures in (
      c.in_ok-found.ensures.file ∙ inv.0,
      omega (arith, h.3),
      ap (λ n. first_failed (each_below n (record_checks reads bytes))) more ∙ passes,
      subst (λ (xs : List (Row _)). (k : ℕ) (d : Row _) → k < length xs → RecordAt reads bytes k (get_or xs k d)) (sym pushed) (each_push (RecordAt reads bytes) rows v inv.3 holds),
    )

pub returns : goal.returns
returns g c =
    let reads = g.K.Kind.reads in let bytes = c.args.bytes.now in let words = c.loop-rows.words in
    let inv = c.loop-rows.invariant in let i = length (held c.loop-rows.rows) in let w' = c.next_record.new.self.word in
    let handed : Handed words.bytes.now words.word w' (Ok None) = subst (λ o. Handed words.bytes.now words.word w' (Ok o)) c.in_default.is c.in_ok-found.ensures.handed in
    let h : Handed bytes (3 * i) w' (Ok None) = handed_here words.bytes.now bytes words.word i w' inv.0 inv.1 (Ok None) handed in
    let same : length words.bytes.now ≡ length bytes = ap length inv.0 in
    let even = c.if-bytes-ne0.false in
    let short : length bytes ≤ 6144 = omega arith in
    let all : 12 * i ≡ length bytes = omega (arith, h.0, words.within, same, inv.1, even) in
    (table_passes reads bytes short even i all inv.2, record { whole = all; each = inv.3 })
