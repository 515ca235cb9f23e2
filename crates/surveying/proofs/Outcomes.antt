-- What judging a bay comes to, and how ages, trials and orders add up over bays. Assumes nothing.
use Rattle.std.proofs.Common.{◌≡◌, ℕ, ◌<◌, ◌≤◌, true, false, cond, ltb, ◌⊎◌, List, [], ◌∷◌, length, sym, refl, ap, ◌∙◌, subst₂, inl, inr, arith}
use Rattle.std.proofs.lemmas.Bool.{cases_lt, cases_Bool, cond-true, cond-false, lt-ltb, le-ltb, eq-eqb, and_from}
use Rattle.orders.specs.Claims.{Judgeable}
use Rattle.orders.specs.Listing.{tried_age, tried_trials, tried_order}
use Rattle.orders.specs.Orders.{Operation, at, of_bay, whole, writes, write_count, write_of, bay_graph, Sourced}
use Rattle.orders.specs.Places.{bit, times}
use Rattle.orders.specs.RunUps.{Tried}
use Rattle.orders.proofs.Counts.{is_some}
use Rattle.orders.proofs.Growing.{member_writes}
use Rattle.orders.proofs.Judged.{bay_is_tried, order_full}
use Rattle.orders.proofs.Operations.{writing, among_from, source_writes, in_whole}
use Rattle.orders.proofs.Unique.{tried_is_unique}
use Rattle.bays.specs.Verdicts.{has_read, BayJudged, idle, tried, Overrun}
use Rattle.bays.proofs.Passing.{some_tally, tally_some, none_some}
use Rattle.surveying.specs.Surveying.{judged_age, judged_trials, judged_order, has_operation}

module _ (ops : List Operation) (b : ℕ) where
  -- a bay without a write,
  pub age_idle : write_count ops b ≡ 0 → judged_age ops b ≡ 0
  unfolding judged_age
  age_idle e = cond-false (ltb 0 (write_count ops b)) _ 0 (le-ltb 0 (write_count ops b) (omega arith))

  pub trials_idle : write_count ops b ≡ 0 → judged_trials ops b ≡ 0
  unfolding judged_trials
  trials_idle e = cond-false (ltb 0 (write_count ops b)) _ 0 (le-ltb 0 (write_count ops b) (omega arith))

  pub order_idle : write_count ops b ≡ 0 → judged_order ops b ≡ []
  unfolding judged_order
  order_idle e = cond-false (ltb 0 (write_count ops b)) _ [] (le-ltb 0 (write_count ops b) (omega arith))

  -- and one with a write
  age_tried : 0 < write_count ops b → judged_age ops b ≡ cond (has_read ops b) (tried_age (bay_graph ops b) (length ops)) 0
  unfolding judged_age
  age_tried h = cond-true (ltb 0 (write_count ops b)) _ 0 (lt-ltb 0 (write_count ops b) h)

  trials_tried : 0 < write_count ops b → judged_trials ops b ≡ tried_trials (bay_graph ops b) (length ops)
  unfolding judged_trials
  trials_tried h = cond-true (ltb 0 (write_count ops b)) _ 0 (lt-ltb 0 (write_count ops b) h)

  order_tried : 0 < write_count ops b → judged_order ops b ≡ tried_order (bay_graph ops b) (length ops)
  unfolding judged_order
  order_tried h = cond-true (ltb 0 (write_count ops b)) _ [] (lt-ltb 0 (write_count ops b) h)

  -- the ages, trials and orders are what judging comes to
  pub bay_judged : Judgeable ops (of_bay b) → BayJudged ops b (judged_age ops b) (judged_trials ops b) (judged_order ops b)
  bay_judged j = go (cases_lt 0 (write_count ops b))
    where
      go : ((0 < write_count ops b) ⊎ (write_count ops b ≤ 0)) → BayJudged ops b (judged_age ops b) (judged_trials ops b) (judged_order ops b)
      go (inl h) =
          let w = some_tally (length ops) (writes ops b) h in
          let t = bay_is_tried ops b w.0 j w.2 in
          tried (tried_age (bay_graph ops b) (length ops)) h (subst₂ (λ c run. Tried (bay_graph ops b) (tried_age (bay_graph ops b) (length ops)) c run) (sym (trials_tried h)) (sym (order_tried h)) t) (age_tried h)
      go (inr h) = let e : write_count ops b ≡ 0 = omega arith in idle e (age_idle e) (trials_idle e) (order_idle e)

  -- judging comes to one outcome
  pub judged_same : (a c k d : ℕ) (run other : List ℕ) → BayJudged ops b a c run → BayJudged ops b k d other → (a ≡ k) × (c ≡ d) × (run ≡ other)
  judged_same a c k d run other (idle e p q r) (idle f s t u) = (p ∙ sym s, q ∙ sym t, r ∙ sym u)
  judged_same a c k d run other (idle e p q r) (tried i h t s) = absurd (omega arith)
  judged_same a c k d run other (tried i h t s) (idle e p q r) = absurd (omega arith)
  judged_same a c k d run other (tried i h t s) (tried j l u p) =
      let x = tried_is_unique (bay_graph ops b) i j c d run other t u in
      (s ∙ ap (λ n. cond (has_read ops b) n 0) x.0 ∙ sym p, x.1, x.2)

  -- a tried bay has a write
  has_write : (k c : ℕ) (run : List ℕ) → Tried (bay_graph ops b) k c run → 0 < write_count ops b
  has_write k c [] t = absurd (omega (arith, t.first.order.run_up.some))
  has_write k c (x ∷ xs) t =
      let w : writes ops b x ≡ true = member_writes (writes ops b x) (times x (x ∷ xs)) (t.first.order.run_up.once x) (omega (arith, ap bit (eq-eqb x x refl))) in
      tally_some (length ops) (writes ops b) x (writing ops b x w).below w

  -- trials that pass what is left are more than are left
  pub overrun_more : (left : ℕ) → Judgeable ops (of_bay b) → Overrun ops b left → left < judged_trials ops b
  overrun_more left j o = go (bay_judged j)
    where
      go : BayJudged ops b (judged_age ops b) (judged_trials ops b) (judged_order ops b) → left < judged_trials ops b
      go (idle e p q r) = absurd (omega (arith, e, has_write _ _ _ o.tried))
      go (tried k h t s) = omega (arith, o.over, (tried_is_unique (bay_graph ops b) _ k _ _ _ _ o.tried t).1)

  -- a value order has all writes
  pub order_length : Judgeable ops (of_bay b) → length (judged_order ops b) ≡ write_count ops b
  order_length j = go (bay_judged j)
    where
      go : BayJudged ops b (judged_age ops b) (judged_trials ops b) (judged_order ops b) → length (judged_order ops b) ≡ write_count ops b
      go (idle e p q r) = ap length r ∙ sym e
      go (tried k h t s) = order_full (bay_graph ops b) (length ops) k (λ p w. (writing ops b p w).below) (judged_order ops b) t.first.order

  -- where every read has a write, a bay has operations exactly where it has writes
  pub operations_written : Sourced ops whole → has_operation ops b ≡ ltb 0 (write_count ops b)
  operations_written has = go (cases_lt 0 (write_count ops b))
    where
      go : ((0 < write_count ops b) ⊎ (write_count ops b ≤ 0)) → has_operation ops b ≡ ltb 0 (write_count ops b)
      go (inl h) =
          let w = some_tally (length ops) (writes ops b) h in
          let i = writing ops b w.0 w.2 in
          is_some (length ops) (λ p. of_bay b (at ops p)) w.0 i.below (eq-eqb (at ops w.0).bay b i.bay) ∙ sym (lt-ltb 0 (write_count ops b) h)
      go (inr h) = none_some (length ops) (λ p. of_bay b (at ops p)) (λ p l. none p l (cases_Bool (of_bay b (at ops p))) (cases_Bool (at ops p).write)) ∙ sym (le-ltb 0 (write_count ops b) h)
        where
          counted : (p : ℕ) → writes ops b p ≡ true → ⊥
          counted p w = omega (arith, h, tally_some (length ops) (writes ops b) p (writing ops b p w).below w)

          none : (p : ℕ) → p < length ops → ((of_bay b (at ops p) ≡ true) ⊎ (of_bay b (at ops p) ≡ false)) → (((at ops p).write ≡ true) ⊎ ((at ops p).write ≡ false)) → of_bay b (at ops p) ≡ false
          none p l (inr f) w = f
          none p l (inl t) (inl w) = absurd (counted p (and_from _ _ (lt-ltb _ _ l) (and_from _ _ w t)))
          none p l (inl t) (inr r) =
              let here = among_from ops (of_bay b) p l t in
              let far = has p (in_whole ops b p here) r in
              absurd (counted (write_of ops (at ops p)) (source_writes ops b p here far))
