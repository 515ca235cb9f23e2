-- The findings of an accepted survey say the lines of its bays. Assumes nothing.
use Rattle.std.proofs.Common.{◌≡◌, ℕ, zero, suc, ◌≤◌, Bool, true, false, cond, List, [], ◌∷◌, ◌++◌, length, Ok, sym, refl, ap, ◌∙◌, ap₂, subst₂, append-nil, arith}
use Rattle.std.proofs.lemmas.List.{length-append}
use Rattle.std.proofs.lemmas.Bool.{ltb-false}
use Rattle.operations.specs.Checks.{first_failed}
use Rattle.operations.specs.Rows.{AllValid}
use Rattle.operations.specs.declared.refusal.Layer.TheVariants.{Survey}
use Rattle.operations.specs.declared.row.Row.{Row}
use Rattle.orders.specs.Claims.{Judgeable}
use Rattle.orders.specs.Orders.{Operation, whole, write_count}
use Rattle.orders.proofs.LeastAges.{judgeable_bay}
use Rattle.relations.specs.Meanings.{told}
use Rattle.relations.proofs.Told.{told_timed}
use Rattle.surveying.specs.declared.finding.Finding.{Finding}
use Rattle.surveying.specs.declared.report.Report.{Report}
use Rattle.surveying.specs.Surveyed.{Surveyed}
use Rattle.surveying.specs.Words.{report_words}
use Rattle.surveying.specs.Surveying.{crane_bays, survey_checks, report_of, judged_age, judged_order, has_operation, finding, findings_below, orders_below}
use Rattle.surveying.proofs.Outcomes.{order_idle, order_length, operations_written}
use Rattle.surveying.proofs.Answering.{no_check_failed, values_passed}
use Rattle.surveying.proofs.Spared.{spared_judgeable}
use Rattle.summaries.specs.Summaries.{survey_words, bay_words, all_writes, findings_words, bays_words}
use Rattle.summaries.proofs.Texts.{push_finding, push_writes}

module _ (ops : List Operation) (judgeable : Judgeable ops whole) where
  -- a bay without operations has no order
  unordered : (n : ℕ) → has_operation ops n ≡ false → judged_order ops n ≡ []
  unordered n e = order_idle ops n (omega (arith, ltb-false 0 (write_count ops n) (sym (operations_written ops n judgeable.sourced) ∙ e)))

  -- the writes of the findings are the places of the orders
  pub writes_placed : (n : ℕ) → all_writes (findings_below ops n) ≡ length (orders_below ops n)
  writes_placed zero = refl
  writes_placed (suc n) = go (has_operation ops n) refl (writes_placed n)
    where
      go : (b : Bool) → has_operation ops n ≡ b → all_writes (findings_below ops n) ≡ length (orders_below ops n) → all_writes (findings_below ops n ++ cond b (finding ops n ∷ []) []) ≡ length (orders_below ops n ++ judged_order ops n)
      go true e so_far = omega (arith, push_writes (findings_below ops n) (finding ops n), length-append (orders_below ops n) (judged_order ops n), order_length ops n (judgeable_bay n judgeable))
      go false e so_far = ap all_writes (append-nil (findings_below ops n)) ∙ so_far ∙ sym (ap length (ap (λ l. orders_below ops n ++ l) (unordered n e) ∙ append-nil (orders_below ops n)))

  -- so the findings and the orders give the lines
  pub findings_told : (n : ℕ) → findings_words (findings_below ops n) (orders_below ops n) ≡ bays_words ops n
  findings_told zero = refl
  findings_told (suc n) = go (has_operation ops n) refl (findings_told n)
    where
      go : (b : Bool) → has_operation ops n ≡ b → findings_words (findings_below ops n) (orders_below ops n) ≡ bays_words ops n → findings_words (findings_below ops n ++ cond b (finding ops n ∷ []) []) (orders_below ops n ++ judged_order ops n) ≡ bays_words ops n ++ cond b (bay_words n (judged_age ops n) (judged_order ops n)) []
      go true e so_far =
          push_finding (findings_below ops n) (orders_below ops n) (finding ops n) (judged_order ops n) (writes_placed n) (sym (order_length ops n (judgeable_bay n judgeable)))
          ∙ ap (λ l. l ++ bay_words n (judged_age ops n) (judged_order ops n)) so_far
      go false e so_far =
          ap₂ findings_words (append-nil (findings_below ops n)) (ap (λ l. orders_below ops n ++ l) (unordered n e) ∙ append-nil (orders_below ops n))
          ∙ so_far ∙ sym (append-nil (bays_words ops n))

-- what an accepted survey of rows says, from what it left on the desk
module _ {V : Type 0} (m : V → ℕ × ℕ) (rows : List (Row V)) (valid : AllValid rows) (limit : ℕ) (findings : List Finding) (orders : List ℕ) (report : Report) (surveyed : Surveyed (told m rows) limit findings orders (Ok report)) where
  surveyed_judgeable : Judgeable (told m rows) whole
  surveyed_judgeable = spared_judgeable (told m rows) Survey (values_passed (told m rows) limit (no_check_failed (report_of (told m rows)) report (first_failed (survey_checks (told m rows) limit)) (sym surveyed.decided)).0) (told_timed m rows valid)

  pub writes_fit : all_writes findings ≤ length orders
  writes_fit = subst₂ (λ fs os. all_writes fs ≤ length os) (sym surveyed.kept.0) (sym surveyed.kept.1) (omega (arith, writes_placed (told m rows) surveyed_judgeable crane_bays))

  pub report_said : report_words report ++ findings_words findings orders ≡ survey_words (told m rows) report
  report_said =
      ap₂ (λ (fs : List Finding) (os : List ℕ). report_words report ++ findings_words fs os) surveyed.kept.0 surveyed.kept.1
      ∙ ap (λ l. report_words report ++ l) (findings_told (told m rows) surveyed_judgeable crane_bays)
