use Rattle.std.proofs.Common.{◌≡◌, ℕ, List, length, string_bytes, filter, ◌∙◌, subst}
use Rattle.masks.specs.Masks.{has_bit}
use Rattle.leaving.specs.Leaving.{entries, keeps, lists, unlisted, BaysUpTo, MaskOf}
use Rattle.operations.specs.Rooms.{held}
use Rattle.reports.specs.Accounts.{told_words}
use Rattle.reports.specs.Reporting.{listed_bays}
use Rattle.reports.proofs.Texts.{bays_same, told_same}
use Rattle.reports.proofs.reporting.account.Goals as goal

pub returns : goal.returns
returns g c =
    let words = g.K.Written.words in let rows = held c.args.table.now.rows in
    let bays = listed_bays c.in_ok-bays.bays in
    let same : entries c.listed.result ≡ bays = c.listed.ensures in
    let kept = c.in_ok-kept.kept in
    let h = c.in_ok-kept.ensures.unlisted in
    let upto : BaysUpTo bays (length bays) = subst (λ (xs : List ℕ). BaysUpTo xs (length xs)) same h.0 in
    let mask : MaskOf bays kept.mask = subst (λ (xs : List ℕ). MaskOf xs kept.mask) same h.1 in
    let left : filter (keeps kept.mask) (held kept.below.now.rows) ≡ unlisted bays rows = subst (λ (xs : List ℕ). filter (keeps kept.mask) (held kept.below.now.rows) ≡ unlisted xs rows) same h.2 in
    let said : string_bytes c.in_ok-text.text ≡ told_words words c.len.result (has_bit kept.mask) (filter (keeps kept.mask) (held kept.below.now.rows)) = c.in_ok-text.ensures.ok in
    (bays, c.in_ok-bays.ensures, upto, said ∙ told_same words c.len.result (length rows) (has_bit kept.mask) (lists bays) _ (unlisted bays rows) c.len.ensures (bays_same (has_bit kept.mask) (lists bays) 64 mask) left)
