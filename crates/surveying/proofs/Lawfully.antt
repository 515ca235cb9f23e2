-- The laws of a survey hold. Assumes nothing.
use Rattle.std.proofs.Common.{◌≡◌, ℕ, suc, ◌<◌, ◌≤◌, leb, ◌⊎◌, ◌↔◌, List, [], length, Some, None, Ok, Err, Option, sym, refl, ap, ◌∙◌, subst, ap₂, inl, inr, arith}
use Rattle.operations.specs.Checks.{first_failed}
use Rattle.operations.specs.Refusals.{refusal}
use Rattle.operations.specs.declared.refusal.Layer.TheVariants.{Survey}
use Rattle.orders.specs.Orders.{Operation, whole, Timed, Distinct, LeastAge}
use Rattle.orders.specs.Places.{top}
use Rattle.orders.proofs.Counts.{total_eq, total_zero, top_le}
use Rattle.orders.proofs.Existence.{lawful_orders_exist}
use Rattle.orders.proofs.LeastAges.{judgeable_bay}
use Rattle.bays.specs.Faults.{unwritten, foreseen, faulty, Lowest}
use Rattle.bays.proofs.Checked.{faultless, fails_14, fails_15, sourced, unforeseen}
use Rattle.surveying.specs.declared.report.Report.{Report}
use Rattle.surveying.specs.Laws.{InCrane, WithinLimits, Lawless, Unfounded, SurveysAreLawful}
use Rattle.surveying.specs.Surveying.{crane_bays, judged_age, judged_trials, trials_below, trial_checks, survey_checks, report_of, answer_by, survey_answer}
use Rattle.surveying.proofs.Adding.{least_of_all, least_same}
use Rattle.surveying.proofs.Answering.{no_check_failed, check_failed, values_passed, values_failed, past_15, none_fails}
use Rattle.surveying.proofs.Outcomes.{bay_judged, age_idle, trials_idle}
use Rattle.surveying.proofs.Checking.{failed_one}
use Rattle.surveying.proofs.Spared.{once, written, unseen, lowest, spared_judgeable}

module _ (ops : List Operation) (limit : ℕ) where
  -- the trials refuse with 16 alone
  not_trials : (number place : ℕ) → number < 16 → first_failed (trial_checks ops limit) ≡ Some (refusal number place Survey) → ⊥
  not_trials number place h f = let x = failed_one (λ b. (leb (trials_below ops (suc b)) limit, refusal 16 b Survey)) crane_bays (refusal number place Survey) f in omega (arith, h, ap (λ r. r.number) x.1)

  module _ (timed : Timed ops) where
    module _ (limits : WithinLimits ops limit) (distinct : Distinct ops whole) where
      -- what is refused has no lawful order,
      unfounded : Unfounded (survey_answer ops limit) → Lawless ops
      unfounded (place, told) order law = go told
        where
          spared : first_failed (survey_checks ops limit) ≡ first_failed (trial_checks ops limit)
          spared = let x = (lawful_orders_exist ops whole (λ a b e. refl) timed).0 (order, law) in past_15 ops limit limits (faultless ops whole Survey (once ops distinct) (written ops x.0) (unseen ops x.1))

          go : ((survey_answer ops limit ≡ Err (refusal 14 place Survey)) ⊎ (survey_answer ops limit ≡ Err (refusal 15 place Survey))) → ⊥
          go (inl e) = not_trials 14 place (omega arith) (sym spared ∙ check_failed (report_of ops) (first_failed (survey_checks ops limit)) (refusal 14 place Survey) e)
          go (inr e) = not_trials 15 place (omega arith) (sym spared ∙ check_failed (report_of ops) (first_failed (survey_checks ops limit)) (refusal 15 place Survey) e)

      -- and what has none is refused
      lawless : Lawless ops → Unfounded (survey_answer ops limit)
      lawless none = go (lowest (length ops) (faulty whole unwritten ops)) (lowest (length ops) (faulty whole foreseen ops))
        where
          go : (place : Option ℕ) × Lowest (length ops) (faulty whole unwritten ops) place → (place : Option ℕ) × Lowest (length ops) (faulty whole foreseen ops) place → Unfounded (survey_answer ops limit)
          go (Some p, l) c = (p, inl (ap (answer_by (report_of ops)) (values_failed ops limit limits (refusal 14 p Survey) (fails_14 ops whole Survey (once ops distinct) p l))))
          go (None, l) (Some p, m) = (p, inr (ap (answer_by (report_of ops)) (values_failed ops limit limits (refusal 15 p Survey) (fails_15 ops whole Survey (once ops distinct) l p m))))
          go (None, l) (None, m) = let x = (lawful_orders_exist ops whole (λ a b e. refl) timed).1 (sourced ops whole l, unforeseen ops whole m) in absurd (none x.0 x.1)

    -- the age reported is the least of all lawful orders
    aged : InCrane ops → (report : Report) → survey_answer ops limit ≡ Ok report → (k : ℕ) → (report.age ≡ k) ↔ LeastAge ops whole k
    aged inside report e k =
        let x = no_check_failed (report_of ops) report (first_failed (survey_checks ops limit)) e in
        let least = least_of_all ops (spared_judgeable ops Survey (values_passed ops limit x.0) timed) inside in
        let same = ap (λ r. r.age) x.1 in
        (λ s. subst (LeastAge ops whole) (same ∙ s) least, λ l. sym same ∙ least_same (top crane_bays (judged_age ops)) k least l)

-- no operations are surveyed to nothing
nothing_surveyed : (limit : ℕ) → 1 ≤ limit → limit ≤ 1000000 → survey_answer [] limit ≡ Ok (record { age = 0; trials = 0; kept = 0 })
nothing_surveyed limit least most =
    ap (answer_by (report_of [])) (none_fails [] limit limits refl (omega (arith, no_trials)))
    ∙ ap₂ (λ (a t : ℕ). answer_by (record { age = a; trials = t; kept = 0 }) None) no_age no_trials
  where
    limits : WithinLimits [] limit
    limits = record { least = least; most = most; short = omega arith; few = λ b l. omega arith }

    no_trials : trials_below [] crane_bays ≡ 0
    no_trials = total_eq crane_bays (judged_trials []) (λ _. 0) (λ b l. trials_idle [] b refl) ∙ total_zero crane_bays

    no_age : top crane_bays (judged_age []) ≡ 0
    no_age = omega (arith, top_le crane_bays (judged_age []) 0 (λ b l. omega (arith, age_idle [] b refl)))

pub surveys_are_lawful : SurveysAreLawful
surveys_are_lawful ops limit timed inside = record {
  reports = (λ x. (no_check_failed (report_of ops) x.0 (first_failed (survey_checks ops limit)) x.1).0, λ h. (report_of ops, ap (answer_by (report_of ops)) h));
  judges = λ h b. bay_judged ops b (judgeable_bay b (spared_judgeable ops Survey h timed));
  age = aged ops limit timed inside;
  lawless = λ limits distinct. (unfounded ops limit timed limits distinct, lawless ops limit timed limits distinct);
  empty = λ e least most. ap (λ o. survey_answer o limit) e ∙ nothing_surveyed limit least most;
}
