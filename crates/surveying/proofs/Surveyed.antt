-- What a survey of rows answers. Assumes nothing.
use Rattle.std.proofs.Common.{◌≡◌, ℕ, ◌<◌, ◌≤◌, ◌⊎◌, List, length, Some, Ok, Err, Result, sym, ap, ◌∙◌, subst, arith}
use Rattle.operations.specs.Refusals.{refusal}
use Rattle.operations.specs.Rows.{AllValid}
use Rattle.operations.specs.declared.refusal.Layer.TheVariants.{Survey}
use Rattle.operations.specs.declared.row.Row.{Row}
use Rattle.relations.specs.Meanings.{told}
use Rattle.relations.proofs.Told.{told_length, told_timed}
use Rattle.surveying.specs.declared.finding.Finding.{Finding}
use Rattle.surveying.specs.declared.report.Report.{Report}
use Rattle.surveying.specs.declared.refusal.SurveyRefusal.{SurveyRefusal}
use Rattle.surveying.specs.declared.refusal.SurveyRefusal.TheVariants.{NoLimit, TooMany}
use Rattle.surveying.specs.Faults.{Spared, Refuses}
use Rattle.surveying.specs.Judged.{BaysFound}
use Rattle.surveying.specs.Laws.{SurveyLaws, WithinLimits}
use Rattle.surveying.specs.Refusals.{survey_refusal}
use Rattle.surveying.specs.Surveyed.{Kept, Surveyed}
use Rattle.surveying.specs.Surveying.{report_of, answer_by, survey_answer, told_answer}
use Rattle.surveying.proofs.Answering.{fails_9, fails_11, fails_16, none_fails}
use Rattle.surveying.proofs.Lawfully.{surveys_are_lawful}
use Rattle.surveying.proofs.Refusing.{told_inside}

module _ {V : Type 0} (m : V → ℕ × ℕ) (rows : List (Row V)) (valid : AllValid rows) (limit : ℕ) (findings : List Finding) (orders : List ℕ) where
  -- an answer that is decided obeys the laws
  lawful : (r : Result Report SurveyRefusal) → told_answer r ≡ survey_answer (told m rows) limit → Kept (told m rows) findings orders r → Surveyed (told m rows) limit findings orders r
  lawful r decided kept = record { decided = decided; laws = subst (SurveyLaws (told m rows) limit) (sym decided) (surveys_are_lawful (told m rows) limit (told_timed m rows valid) (told_inside m rows valid)); kept = kept }

  pub surveyed_9 : (limit ≡ 0) ⊎ (1000000 < limit) → Surveyed (told m rows) limit findings orders (Err (NoLimit limit))
  surveyed_9 h = lawful (Err (NoLimit limit)) (sym (ap (answer_by (report_of (told m rows))) (fails_9 (told m rows) limit h))) tt

  module _ (least : 1 ≤ limit) (most : limit ≤ 1000000) where
    pub surveyed_11 : (n : ℕ) → n ≡ length rows → 512 < n → Surveyed (told m rows) limit findings orders (Err (TooMany n))
    surveyed_11 n e h =
        let same : length (told m rows) ≡ n = told_length m rows ∙ sym e in
        lawful (Err (TooMany n)) (sym (ap (answer_by (report_of (told m rows))) (fails_11 (told m rows) limit least most (omega arith) ∙ ap (λ k. Some (refusal 11 k Survey)) same))) tt

    module _ (short : length rows ≤ 512) where
      few_told : length (told m rows) ≤ 512
      few_told = subst (λ n. n ≤ 512) (sym (told_length m rows)) short

      limits : Spared (told m rows) → WithinLimits (told m rows) limit
      limits s = record { least = least; most = most; short = few_told; few = s.few }

      judged : (r : Result Report SurveyRefusal) → Spared (told m rows) → BaysFound (told m rows) limit findings orders r → Surveyed (told m rows) limit findings orders r
      judged (Ok report) s j = lawful (Ok report) (ap Ok j.reported ∙ sym (ap (answer_by (report_of (told m rows))) (none_fails (told m rows) limit (limits s) s.passed j.within))) (j.found, j.ordered)
      judged (Err e) s j = lawful (Err e) (ap (λ x. Err (survey_refusal x)) j.refused ∙ sym (ap (answer_by (report_of (told m rows))) (fails_16 (told m rows) limit (limits s) s.passed j.bay j.inside j.within j.over))) tt

      -- what was found of a copy
      module _ (copy : List (Row V)) (same : copy ≡ rows) where
        pub surveyed_refused : (e : SurveyRefusal) → Refuses (told m copy) e → Surveyed (told m rows) limit findings orders (Err e)
        surveyed_refused e refuses = lawful (Err e) (sym (subst (λ l. Refuses (told m l) e) same refuses limit least most few_told)) tt

        pub surveyed_judged : (r : Result Report SurveyRefusal) → Spared (told m copy) → BaysFound (told m copy) limit findings orders r → Surveyed (told m rows) limit findings orders r
        surveyed_judged r s j = judged r (subst (λ l. Spared (told m l)) same s) (subst (λ l. BaysFound (told m l) limit findings orders r) same j)
