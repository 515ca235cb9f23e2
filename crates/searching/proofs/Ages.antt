-- One more k is tried, and none is left to try.
use Rattle.std.proofs.Common.{◌≡◌, ℕ, zero, suc, ◌+◌, ◌-◌, ◌<◌, ◌≤◌, ltb, sym, subst, ⊎_elim, arith}
use Rattle.std.proofs.lemmas.Bool.{cases_eq, cases_lt}
use Rattle.orders.specs.RunUps.{Graph, Trials, TrialsUpTo, NoneFor, NoneBelow}
use Rattle.orders.proofs.Sequences.{position_in}
use Rattle.searching.proofs.Indices.{run_up_few}

module _ (g : Graph) where
  pub trials_more : (k a b c : ℕ) → 0 < k → TrialsUpTo g (k - 1) a → Trials g k b → c ≡ a + b → TrialsUpTo g k c
  trials_more zero a b c h x y e = absurd (omega arith)
  trials_more (suc k) a b c h x y e = let back : suc k - 1 ≡ k = omega arith in (a, b, subst (λ j. TrialsUpTo g j a) back x, y, e)

  pub trials_next : (k a b c : ℕ) → 0 < k → TrialsUpTo g (k - 1) a → Trials g k b → c ≡ a + b → TrialsUpTo g (k + 1 - 1) c
  trials_next k a b c h x y e = let back : k ≡ k + 1 - 1 = omega arith in subst (λ j. TrialsUpTo g j c) back (trials_more k a b c h x y e)

  pub none_more : (k : ℕ) → NoneBelow g k → NoneFor g k → NoneBelow g (k + 1)
  none_more k x y j h l = ⊎_elim (λ e. subst (NoneFor g) (sym e) y) (λ ne. x j h (omega arith)) (cases_eq j k)

  -- from k = n on no read edge binds, so no other k has a value order either
  pub none_beyond : (n k : ℕ) → ((p : ℕ) → g.write p ≡ ltb p n) → 0 < k → n ≤ k → NoneBelow g (k + 1) → (j : ℕ) → 1 ≤ j → NoneFor g j
  none_beyond n k ranks own h x j some run v =
      ⊎_elim
      (λ lt. x j some lt run v)
      (λ le. x k own (omega arith) run (record {
        run_up = record {
          some = v.run_up.some;
          once = v.run_up.once;
          closed = v.run_up.closed;
          near = λ u w tu tw e l. let few = run_up_few g n j ranks v.run_up in let i = position_in run u tu in omega arith;
        };
        all = v.all;
      }))
      (cases_lt j (k + 1))
