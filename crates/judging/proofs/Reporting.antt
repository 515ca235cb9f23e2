-- What a judge reports and refuses, from what is found of the rows. Assumes nothing.
use Rattle.std.proofs.Common.{◌≡◌, ℕ, ◌<◌, ◌≤◌, Bool, false, ◌&&◌, leb, ◌⊎◌, List, ◌∷◌, ◌++◌, length, drop, Some, Ok, Err, sym, refl, ap, ◌∙◌, inl, inr, arith}
use Rattle.std.proofs.lemmas.Bool.{cond-true, cond-false, le-leb, lt-leb, and_from, and_left, and_right}
use Rattle.bays.proofs.Ages.{least_age}
use Rattle.bays.proofs.Passing.{some_tally}
use Rattle.lists.specs.Lists.{listed}
use Rattle.operations.specs.Checks.{first_failed}
use Rattle.operations.specs.Refusals.{refusal}
use Rattle.operations.specs.declared.refusal.Layer.TheVariants.{Judge}
use Rattle.operations.specs.declared.refusal.Refusal.{Refusal}
use Rattle.orders.specs.Orders.{Operation, writes}
use Rattle.orders.proofs.LeastAges.{value_orders_are_lawful_orders}
use Rattle.trying.specs.declared.order.BayOrder.{BayOrder}
use Rattle.judging.specs.declared.refusal.JudgeRefusal.{JudgeRefusal}
use Rattle.judging.specs.declared.refusal.JudgeRefusal.TheVariants.{NoBay, NoLimit, ShortSheet, TooMany}
use Rattle.judging.specs.Checks.{bay_checks, judge_checks}
use Rattle.judging.specs.Judging.{Judged}
use Rattle.judging.specs.Rows.{RowsJudged}

module _ (ops : List Operation) (b limit : ℕ) (sheet : List ℕ) where
  -- the checks from each on
  abbrev from_11 : List (Bool × Refusal)
  from_11 = (leb (length ops) 512, refusal 11 (length ops) Judge) ∷ bay_checks ops b

  abbrev from_10 : List (Bool × Refusal)
  from_10 = (leb 64 (length sheet), refusal 10 (length sheet) Judge) ∷ from_11

  abbrev from_9 : List (Bool × Refusal)
  from_9 = (leb 1 limit && leb limit 1000000, refusal 9 limit Judge) ∷ from_10

  pub refused_8 : 63 < b → Judged ops b limit sheet sheet (Err (NoBay b))
  refused_8 h = (refl, inl (cond-false (leb b 63) (first_failed from_9) (Some (refusal 8 b Judge)) (lt-leb b 63 h)))

  module _ (is-bay : b ≤ 63) where
    past_8 : first_failed (judge_checks ops b limit (length sheet)) ≡ first_failed from_9
    past_8 = cond-true (leb b 63) (first_failed from_9) (Some (refusal 8 b Judge)) (le-leb b 63 is-bay)

    pub refused_9 : (limit ≡ 0) ⊎ (1000000 < limit) → Judged ops b limit sheet sheet (Err (NoLimit limit))
    refused_9 h = (refl, inl (past_8 ∙ cond-false (leb 1 limit && leb limit 1000000) (first_failed from_10) (Some (refusal 9 limit Judge)) (out h)))
      where
        out : (limit ≡ 0) ⊎ (1000000 < limit) → (leb 1 limit && leb limit 1000000) ≡ false
        out (inl e) = and_left (leb 1 limit) (leb limit 1000000) (lt-leb 1 limit (omega arith))
        out (inr l) = and_right (leb 1 limit) (leb limit 1000000) (lt-leb limit 1000000 l)

    module _ (least : 1 ≤ limit) (most : limit ≤ 1000000) where
      past_9 : first_failed (judge_checks ops b limit (length sheet)) ≡ first_failed from_10
      past_9 = past_8 ∙ cond-true (leb 1 limit && leb limit 1000000) (first_failed from_10) (Some (refusal 9 limit Judge)) (and_from _ _ (le-leb 1 limit least) (le-leb limit 1000000 most))

      pub refused_10 : length sheet < 64 → Judged ops b limit sheet sheet (Err (ShortSheet (length sheet)))
      refused_10 h = (refl, inl (past_9 ∙ cond-false (leb 64 (length sheet)) (first_failed from_11) (Some (refusal 10 (length sheet) Judge)) (lt-leb 64 (length sheet) h)))

      module _ (wide : 64 ≤ length sheet) where
        past_10 : first_failed (judge_checks ops b limit (length sheet)) ≡ first_failed from_11
        past_10 = past_9 ∙ cond-true (leb 64 (length sheet)) (first_failed from_11) (Some (refusal 10 (length sheet) Judge)) (le-leb 64 (length sheet) wide)

        pub refused_11 : (n : ℕ) → n ≡ length ops → 512 < n → Judged ops b limit sheet sheet (Err (TooMany n))
        refused_11 n e h = (refl, inl (past_10 ∙ cond-false (leb (length ops) 512) (first_failed (bay_checks ops b)) (Some (refusal 11 (length ops) Judge)) (lt-leb (length ops) 512 (omega arith)) ∙ ap (λ k. Some (refusal 11 k Judge)) (sym e)))

        module _ (short : length ops ≤ 512) where
          past_11 : first_failed (judge_checks ops b limit (length sheet)) ≡ first_failed (bay_checks ops b)
          past_11 = past_10 ∙ cond-true (leb (length ops) 512) (first_failed (bay_checks ops b)) (Some (refusal 11 (length ops) Judge)) (le-leb (length ops) 512 short)

          -- a refusal that the rows give
          pub refused : (e : JudgeRefusal) → RowsJudged ops b limit (Err e) → Judged ops b limit sheet sheet (Err e)
          refused e (inl f) = (refl, inl (past_11 ∙ f))
          refused e (inr f) = (refl, inr (past_11 ∙ f.0, f.1, f.2))

          -- and a report
          pub reported : (o : BayOrder) (filled : List ℕ) → RowsJudged ops b limit (Ok o) → filled ≡ listed o.places ++ drop (length (listed o.places)) sheet → Judged ops b limit sheet filled (Ok (record { age = o.age; trials = o.trials; writes = length (listed o.places) }))
          reported o filled j f = record {
            order = listed o.places;
            passed = past_11 ∙ j.0;
            judged = j.2.0;
            within = j.2.1;
            writes = j.2.2;
            filled = f;
            least = least_age ops b o.age o.trials (listed o.places) j.1 j.2.0;
            orders = λ k h w. let x = some_tally (length ops) (writes ops b) w in value_orders_are_lawful_orders ops b k x.0 j.1 x.2 h;
          }
