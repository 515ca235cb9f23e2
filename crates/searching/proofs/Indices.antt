-- Run-ups over tables of masks, said by indices.
use Rattle.std.proofs.Common.{◌≡◌, ℕ, ◌+◌, ◌-◌, ◌<◌, ◌≤◌, Bool, true, false, ltb, List, length, get_or, take, sym, refl, ap, ◌∙◌, subst, subst₂, ⊎_elim, arith}
use Rattle.std.proofs.lemmas.List.{get_or-take}
use Rattle.std.proofs.lemmas.Bool.{cases_eq, cases_lt, eq-eqb, eqb-true, lt-ltb, ltb-true, le-ltb}
use Rattle.orders.specs.Places.{bit, times, position}
use Rattle.orders.specs.RunUps.{Graph, RunUp, ValueOrder}
use Rattle.searching.specs.Masks.{mask_graph}
use Rattle.orders.proofs.Sequences.{position_in, in_position, length_total}
use Rattle.searching.proofs.Members.{Diff, at_position, times_at, position_at, different_once, once_different, total_few, total_ones, ones_total}
use Rattle.searching.proofs.BitSets.{Has}

-- W u v is a write edge from u to v, R u v a read edge; the writes are the numbers below n
pub record Indexed (W R : ℕ → ℕ → Type 0) (n k : ℕ) (run : List ℕ) : Type 0 where
  pub some : 0 < length run
  pub writes : (j : ℕ) → j < length run → get_or run j 0 < n
  pub different : Diff run
  pub earlier : (u j : ℕ) → j < length run → W u (get_or run j 0) → (i : ℕ) × (i < j) × (get_or run i 0 ≡ u)
  pub near : (i j : ℕ) → i < j → j < length run → R (get_or run j 0) (get_or run i 0) → j ≤ i + (k - 1)

-- the edges that the tables hold
abbrev pub Into : ℕ → List ℕ → ℕ → ℕ → Type 0
Into n before u v = (u < n) × Has (get_or before v 0) u

abbrev pub From : List ℕ → ℕ → ℕ → Type 0
From behind u v = Has (get_or behind u 0) v

bit_le : (b : Bool) → bit b ≤ 1
bit_le true = omega arith
bit_le false = omega arith

-- of any graph whose writes are the numbers below n
module _ (g : Graph) (n k : ℕ) (ranks : (p : ℕ) → g.write p ≡ ltb p n) where
  pub once_few : {run : List ℕ} → RunUp g k run → (p : ℕ) → times p run ≤ 1
  once_few r p = omega (arith, r.once p, bit_le (g.write p))

  pub members_below : {run : List ℕ} → RunUp g k run → (p : ℕ) → 0 < times p run → p < n
  members_below r p h =
      ⊎_elim (λ lt. lt) (λ le. absurd (omega (arith, r.once p, ap bit (ranks p ∙ le-ltb p n le)))) (cases_lt p n)

  pub run_up_few : {run : List ℕ} → RunUp g k run → length run ≤ n
  run_up_few {run} r = omega (arith, length_total n run (members_below r), total_few n (λ p. times p run) (once_few r))

  pub order_length : {run : List ℕ} → ValueOrder g k run → length run ≡ n
  order_length {run} v =
      length_total n run (members_below v.run_up)
      ∙ total_ones n (λ p. times p run) (once_few v.run_up) (λ p h. v.all p (ranks p ∙ lt-ltb p n h))

  pub full_order : {run : List ℕ} → RunUp g k run → length run ≡ n → ValueOrder g k run
  full_order {run} r e = record {
    run_up = r;
    all = λ p w. ones_total n (λ q. times q run) (once_few r) (sym (length_total n run (members_below r)) ∙ e) p (ltb-true p n (sym (ranks p) ∙ w));
  }

  pub entry_below : (writes : List ℕ) → ValueOrder g k (take n writes) → (i : ℕ) → i < n → get_or writes i 0 < n
  entry_below writes v i h =
      let len = order_length v in
      subst (λ x. x < n) (get_or-take n writes i 0 h) (members_below v.run_up (get_or (take n writes) i 0) (times_at (take n writes) i (omega arith)))

module _ (before behind : List ℕ) (n k : ℕ) where
  pub indexed : {run : List ℕ} → RunUp (mask_graph n before behind) k run → Indexed (Into n before) (From behind) n k run
  indexed {run} r =
      let diff : Diff run = once_different run (once_few (mask_graph n before behind) n k (λ _. refl) r) in
      record {
        some = r.some;
        writes = λ j h. members_below (mask_graph n before behind) n k (λ _. refl) r (get_or run j 0) (times_at run j h);
        different = diff;
        earlier = λ u j h e.
            let lt = r.closed u (get_or run j 0) (lt-ltb u n e.0) (times_at run j h) (eq-eqb _ 1 e.1) in
            let at = position_at run j diff h in
            (position run u, omega arith, at_position run u (in_position run u (omega arith)));
        near = λ i j l h e.
            let at = position_at run j diff h in
            let from = position_at run i diff (omega arith) in
            let le = r.near (get_or run j 0) (get_or run i 0) (times_at run j h) (times_at run i (omega arith)) (eq-eqb _ 1 e) (omega arith) in
            omega arith;
      }

  pub unindexed : {run : List ℕ} → Indexed (Into n before) (From behind) n k run → RunUp (mask_graph n before behind) k run
  unindexed {run} x = record {
    some = x.some;
    once = λ p.
        let few = different_once run p x.different in
        ⊎_elim
        (λ lt. omega (arith, ap bit (lt-ltb p n lt)))
        (λ le. ⊎_elim (λ none. omega arith) (λ some. absurd (inside p le (omega arith))) (cases_eq (times p run) 0))
        (cases_lt p n);
    closed = λ u v w h e.
        let at = at_position run v h in
        let t = x.earlier u (position run v) (position_in run v h) (ltb-true u n w, subst (λ y. Has (get_or before y 0) u) (sym at) (eqb-true _ 1 e)) in
        let lt = t.1 in
        let i = position_in run v h in
        let own = subst (λ y. position run y ≡ t.0) t.2 (position_at run t.0 x.different (omega arith)) in
        omega arith;
    near = λ u v h l e lt.
        x.near (position run v) (position run u) lt (position_in run u h)
        (subst₂ (λ y z. Has (get_or behind y 0) z) (sym (at_position run u h)) (sym (at_position run v l)) (eqb-true _ 1 e));
  }
    where
      inside : (p : ℕ) → n ≤ p → 0 < times p run → ⊥
      inside p le h =
          let at = at_position run p h in
          let lt = x.writes (position run p) (position_in run p h) in
          omega arith
