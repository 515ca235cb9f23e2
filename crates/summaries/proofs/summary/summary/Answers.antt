use Rattle.std.proofs.Common.{◌≡◌, ℕ, List, length, filter, subst}
use Rattle.leaving.specs.Leaving.{entries, keeps, unlisted, BaysUpTo}
use Rattle.operations.specs.Rooms.{held}
use Rattle.relations.specs.Meanings.{told}
use Rattle.reports.specs.Reporting.{contents, listed_bays}
use Rattle.summaries.specs.Summarising.{Said}
use Rattle.summaries.proofs.Kept.{summarised}
use Rattle.summaries.proofs.summary.summary.Goals as goal

pub returns : goal.returns
returns g c =
    let meaning = g.K.Kind.meaning in let rows = held c.args.table.now.rows in
    let bays = listed_bays c.in_ok-bays.bays in
    let same : entries c.listed.result ≡ bays = c.listed.ensures in
    let kept = c.in_ok-kept.kept in
    let h = c.in_ok-kept.ensures.unlisted in
    let upto : BaysUpTo bays (length bays) = subst (λ (xs : List ℕ). BaysUpTo xs (length xs)) same h.0 in
    let left : filter (keeps kept.mask) (held kept.below.now.rows) ≡ unlisted bays rows = subst (λ (xs : List ℕ). filter (keeps kept.mask) (held kept.below.now.rows) ≡ unlisted xs rows) same h.2 in
    summarised meaning rows c.args.limit (contents c.args.list) bays c.in_ok-bays.ensures upto c.survey_text.result
    (subst (λ xs. Said (told meaning xs) c.args.limit c.survey_text.result) left c.survey_text.ensures)
