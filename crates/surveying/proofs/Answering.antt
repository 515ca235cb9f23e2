-- Which check of a survey fails first. Assumes nothing.
use Rattle.std.proofs.Common.{◌≡◌, ℕ, suc, ◌<◌, ◌≤◌, Bool, false, ◌&&◌, leb, ◌⊎◌, List, [], ◌∷◌, ◌++◌, length, Some, None, Ok, Err, Option, refl, ap, ◌∙◌, inl, inr, arith}
use Rattle.std.proofs.lemmas.Bool.{cond-true, cond-false, le-leb, lt-leb, and_from, and_left, and_right}
use Rattle.operations.specs.Checks.{first_failed}
use Rattle.operations.specs.Refusals.{refusal}
use Rattle.operations.specs.declared.refusal.Layer.TheVariants.{Survey}
use Rattle.operations.specs.declared.refusal.Refusal.{Refusal}
use Rattle.operations.proofs.Checks.{passed_then, failed_then}
use Rattle.orders.specs.Orders.{Operation, whole, write_count}
use Rattle.bays.specs.Faults.{value_checks}
use Rattle.surveying.specs.declared.report.Report.{Report}
use Rattle.surveying.specs.Laws.{WithinLimits}
use Rattle.surveying.specs.Surveying.{crane_bays, judged_trials, trials_below, write_checks, trial_checks, survey_checks, answer_by}
use Rattle.surveying.proofs.Adding.{total_rising}
use Rattle.surveying.proofs.Checking.{all_pass, fails_at, passed_parts}

-- a report tells that no check failed, and a refusal which one did
pub no_check_failed : (r report : Report) (o : Option Refusal) → answer_by r o ≡ Ok report → (o ≡ None) × (r ≡ report)
no_check_failed r report None h = let same : r ≡ report = cc in (refl, same)
no_check_failed r report (Some e) h = let z : ◌≡◌ {A = ℕ} 0 1 = cc in absurd (omega arith)

pub check_failed : (r : Report) (o : Option Refusal) (e : Refusal) → answer_by r o ≡ Err e → o ≡ Some e
check_failed r None e h = let z : ◌≡◌ {A = ℕ} 0 1 = cc in absurd (omega arith)
check_failed r (Some d) e h = let same : d ≡ e = cc in ap Some same

module _ (ops : List Operation) (limit : ℕ) where
  -- the checks behind each
  abbrev from_13 : List (Bool × Refusal)
  from_13 = value_checks ops whole Survey ++ trial_checks ops limit

  abbrev from_12 : List (Bool × Refusal)
  from_12 = write_checks ops ++ from_13

  abbrev from_11 : List (Bool × Refusal)
  from_11 = (leb (length ops) 512, refusal 11 (length ops) Survey) ∷ from_12

  -- where all pass, those of the values do
  pub values_passed : first_failed (survey_checks ops limit) ≡ None → first_failed (value_checks ops whole Survey) ≡ None
  values_passed h =
      let x = passed_parts ((leb 1 limit && leb limit 1000000, refusal 9 limit Survey) ∷ ((leb (length ops) 512, refusal 11 (length ops) Survey) ∷ [])) from_12 h in
      let y = passed_parts (write_checks ops) from_13 x.1 in
      (passed_parts (value_checks ops whole Survey) (trial_checks ops limit) y.1).0

  pub fails_9 : (limit ≡ 0) ⊎ (1000000 < limit) → first_failed (survey_checks ops limit) ≡ Some (refusal 9 limit Survey)
  fails_9 h = cond-false (leb 1 limit && leb limit 1000000) (first_failed from_11) (Some (refusal 9 limit Survey)) (out h)
    where
      out : (limit ≡ 0) ⊎ (1000000 < limit) → (leb 1 limit && leb limit 1000000) ≡ false
      out (inl e) = and_left (leb 1 limit) (leb limit 1000000) (lt-leb 1 limit (omega arith))
      out (inr l) = and_right (leb 1 limit) (leb limit 1000000) (lt-leb limit 1000000 l)

  module _ (least : 1 ≤ limit) (most : limit ≤ 1000000) where
    past_9 : first_failed (survey_checks ops limit) ≡ first_failed from_11
    past_9 = cond-true (leb 1 limit && leb limit 1000000) (first_failed from_11) (Some (refusal 9 limit Survey)) (and_from _ _ (le-leb 1 limit least) (le-leb limit 1000000 most))

    pub fails_11 : 512 < length ops → first_failed (survey_checks ops limit) ≡ Some (refusal 11 (length ops) Survey)
    fails_11 h = past_9 ∙ cond-false (leb (length ops) 512) (first_failed from_12) (Some (refusal 11 (length ops) Survey)) (lt-leb (length ops) 512 h)

    module _ (short : length ops ≤ 512) where
      past_11 : first_failed (survey_checks ops limit) ≡ first_failed from_12
      past_11 = past_9 ∙ cond-true (leb (length ops) 512) (first_failed from_12) (Some (refusal 11 (length ops) Survey)) (le-leb (length ops) 512 short)

      -- the lowest bay with too many writes
      pub fails_12 : (b : ℕ) → b < crane_bays → ((q : ℕ) → q < b → write_count ops q ≤ 64) → 64 < write_count ops b → first_failed (survey_checks ops limit) ≡ Some (refusal 12 b Survey)
      fails_12 b h few many =
          past_11
          ∙ failed_then (write_checks ops) from_13 (refusal 12 b Survey) (fails_at (λ q. (leb (write_count ops q) 64, refusal 12 q Survey)) crane_bays b h (λ q l. le-leb (write_count ops q) 64 (few q l)) (lt-leb (write_count ops b) 64 many))

  module _ (limits : WithinLimits ops limit) where
    -- within the limits the values decide first
    pub past_12 : first_failed (survey_checks ops limit) ≡ first_failed from_13
    past_12 = past_11 limits.least limits.most limits.short ∙ passed_then (write_checks ops) from_13 (all_pass (λ q. (leb (write_count ops q) 64, refusal 12 q Survey)) crane_bays (λ q l. le-leb (write_count ops q) 64 (limits.few q l)))

    -- where one of them fails, it decides
    pub values_failed : (e : Refusal) → first_failed (value_checks ops whole Survey) ≡ Some e → first_failed (survey_checks ops limit) ≡ Some e
    values_failed e h = past_12 ∙ failed_then (value_checks ops whole Survey) (trial_checks ops limit) e h

    module _ (spared : first_failed (value_checks ops whole Survey) ≡ None) where
      -- where the values are spared the trials decide
      pub past_15 : first_failed (survey_checks ops limit) ≡ first_failed (trial_checks ops limit)
      past_15 = past_12 ∙ passed_then (value_checks ops whole Survey) (trial_checks ops limit) spared

      -- the bay at which the running total passes the limit
      pub fails_16 : (b : ℕ) → b < crane_bays → trials_below ops b ≤ limit → limit < trials_below ops (suc b) → first_failed (survey_checks ops limit) ≡ Some (refusal 16 b Survey)
      fails_16 b h within over =
          past_15
          ∙ fails_at (λ q. (leb (trials_below ops (suc q)) limit, refusal 16 q Survey)) crane_bays b h (λ q l. le-leb (trials_below ops (suc q)) limit (omega (arith, total_rising b (judged_trials ops) (suc q) l))) (lt-leb (trials_below ops (suc b)) limit over)

      pub none_fails : trials_below ops crane_bays ≤ limit → first_failed (survey_checks ops limit) ≡ None
      none_fails within = past_15 ∙ all_pass (λ q. (leb (trials_below ops (suc q)) limit, refusal 16 q Survey)) crane_bays (λ q l. le-leb (trials_below ops (suc q)) limit (omega (arith, total_rising crane_bays (judged_trials ops) (suc q) l)))
