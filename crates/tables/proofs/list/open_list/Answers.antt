use Rattle.std.proofs.Common.{◌≡◌, ℕ, ◌+◌, ◌*◌, ◌<◌, ◌≤◌, List, [], ◌∷◌, ◌++◌, length, get_or, Some, None, Ok, Err, sym, ap, ◌∙◌, subst, arith}
use Rattle.std.proofs.lemmas.List.{length_push}
use Rattle.std.proofs.lemmas.Result.{err_from_is_err_and}
use Rattle.operations.specs.Checks.{first_failed, each_below}
use Rattle.operations.specs.Rooms.{held, Pushed}
use Rattle.operations.proofs.Checks.{each_passed, each_push}
use Rattle.tables.specs.declared.refusal.ListRefusal.TheVariants.{Words}
use Rattle.tables.specs.Lists.{bay_checks}
use Rattle.words.specs.Reading.{HandedBay}
use Rattle.tables.specs.Refusals.{list_refusal}
use Rattle.words.specs.Words.{word, content}
use Rattle.tables.proofs.Lists.{bay_here, bay_passes, bay_fails, list_fails, list_passes}
use Rattle.tables.proofs.list.open_list.Goals as goal

pub returns-in_err-bay : goal.returns-in_err-bay
returns-in_err-bay c =
    let bytes = c.args.bytes.now in let words = c.loop-bays.words in let w' = c.next_bay.new.self.word in
    let inv = c.loop-bays.invariant in let i = length (held c.loop-bays.bays) in let wrong = c.in_err-bay.field-0.0 in
    let h : HandedBay bytes i w' (Err wrong) = bay_here words.bytes.now bytes words.word i w' (Err wrong) inv.0 inv.1 c.in_err-bay.ensures.handed in
    let fails = bay_fails bytes i h.1 ∙ ap (λ (n : ℕ). Some (list_refusal (Words (record { word = n })))) (sym h.2) in
    let p = err_from_is_err_and c.from_residual.result c.from_residual.ensures.1 in
    let short : length bytes ≤ 2048 = omega arith in
    rw (p.1, p.2) (list_fails bytes short c.if-bytes-ne0.false i (list_refusal (Words wrong)) (omega (arith, h.0)) inv.2 fails)

pub loop-bays-preserved : goal.loop-bays-preserved
loop-bays-preserved c =
    let bytes = c.args.bytes.now in let words = c.loop-bays.words in let w' = c.next_bay.new.self.word in let bay = c.in-Some.bay in
    let inv = c.loop-bays.invariant in let bays = held c.loop-bays.bays in let i = length bays in
    let handed : HandedBay words.bytes.now words.word w' (Ok (Some bay)) = subst (λ o. HandedBay words.bytes.now words.word w' (Ok o)) c.in-Some.is c.in_ok-bay.ensures.handed in
    let h : HandedBay bytes i w' (Ok (Some bay)) = bay_here words.bytes.now bytes words.word i w' (Ok (Some bay)) inv.0 inv.1 handed in
    let pushed : held c.push.new.self ≡ bays ++ (bay ∷ []) = subst (Pushed bays bay (held c.push.new.self)) c.unwrap.ensures c.push.ensures in
    let more : length (held c.push.new.self) ≡ i + 1 = ap length pushed ∙ length_push bays bay in (
      c.in_ok-bay.ensures.file ∙ inv.0,
      omega (arith, h.3),
      ap (λ n. first_failed (each_below n (bay_checks bytes))) more ∙ each_passed (bay_checks bytes) i inv.2 (bay_passes bytes i h.1),
      subst (λ (xs : List ℕ). (k d : ℕ) → k < length xs → get_or xs k d ≡ content (word bytes k)) (sym pushed) (each_push (λ k b. b ≡ content (word bytes k)) bays bay inv.3 h.2),
    )

pub returns : goal.returns
returns c =
    let bytes = c.args.bytes.now in let words = c.loop-bays.words in let w' = c.next_bay.new.self.word in
    let inv = c.loop-bays.invariant in let i = length (held c.loop-bays.bays) in
    let handed : HandedBay words.bytes.now words.word w' (Ok None) = subst (λ o. HandedBay words.bytes.now words.word w' (Ok o)) c.in_default.is c.in_ok-bay.ensures.handed in
    let h : HandedBay bytes i w' (Ok None) = bay_here words.bytes.now bytes words.word i w' (Ok None) inv.0 inv.1 handed in
    let same : length words.bytes.now ≡ length bytes = ap length inv.0 in
    let even = c.if-bytes-ne0.false in
    let short : length bytes ≤ 2048 = omega arith in
    let all : 4 * i ≡ length bytes = omega (arith, h.0, words.within, same, inv.1, even) in
    (list_passes bytes short even i all inv.2, record { whole = all; each = inv.3 })
