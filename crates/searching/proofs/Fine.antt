-- A run-up grows by one write at a time. Here it is written last member first.
use Rattle.std.proofs.Common.{◌≡◌, ℕ, zero, suc, ◌+◌, ◌-◌, ◌/◌, ◌%◌, ◌^◌, ◌<◌, ◌≤◌, Bool, true, List, [], ◌∷◌, reverse, length, get_or, drop, sym, ap, ◌∙◌, subst, subst₂, ⊎_elim, arith, length-drop}
use lib.Bits.{bit_xor}
use lib.ListN.{length-reverse}
use Rattle.std.proofs.lemmas.List.{get_or-reverse, get_or-drop}
use Rattle.std.proofs.lemmas.Bool.{cases_lt, and_parts, and_from, eqb-true, eqb-false, eq-eqb, ne_eqb, not-true, not_from_false}
use Rattle.searching.specs.Standing.{free}
use Rattle.searching.proofs.Members.{Diff, diff_tail}
use Rattle.searching.proofs.BitSets.{Has, mask, full, diff_drop, from_mask, into_mask, apart, and_apart, only_bit, own_bit, two_ways, absent_in, absent_out}
use Rattle.searching.proofs.Indices.{Indexed, Into, From}

-- the test at a run-up r
abbrev pub may : (n : ℕ) (before behind : List ℕ) (k : ℕ) → List ℕ → ℕ → Bool
may n before behind k r u = free u (get_or before u 0) (get_or behind u 0) (bit_xor (full n) (mask r)) (mask (drop (k - 1) r))

-- a run-up that may be empty, by places from the last
pub record Fine (W R : ℕ → ℕ → Type 0) (n k : ℕ) (r : List ℕ) : Type 0 where
  pub writes : (j : ℕ) → j < length r → get_or r j 0 < n
  pub different : Diff r
  pub earlier : (u j : ℕ) → j < length r → W u (get_or r j 0) → (i : ℕ) × (j < i) × (i < length r) × (get_or r i 0 ≡ u)
  pub near : (i j : ℕ) → i < j → j < length r → R (get_or r i 0) (get_or r j 0) → j ≤ i + (k - 1)

-- u may stand next
pub record Next (W R : ℕ → ℕ → Type 0) (n k : ℕ) (r : List ℕ) (u : ℕ) : Type 0 where
  pub write : u < n
  pub new : (i : ℕ) → i < length r → get_or r i 0 ≡ u → ⊥
  pub after : (w : ℕ) → W w u → (i : ℕ) × (i < length r) × (get_or r i 0 ≡ w)
  pub close : (i : ℕ) → i < length r → R u (get_or r i 0) → suc i ≤ k - 1

module _ (W R : ℕ → ℕ → Type 0) (n k : ℕ) where
  pub fine_none : Fine W R n k []
  fine_none = record {
    writes = λ j h. omega arith;
    different = λ i j l h. absurd (omega arith);
    earlier = λ u j h. absurd (omega arith);
    near = λ i j l h. absurd (omega arith);
  }

  pub fine_tail : (u : ℕ) (r : List ℕ) → Fine W R n k (u ∷ r) → Fine W R n k r
  fine_tail u r f = record {
    writes = λ j h. f.writes (suc j) (omega arith);
    different = diff_tail u r f.different;
    earlier = λ w j h e. back w j (f.earlier w (suc j) (omega arith) e);
    near = λ i j l h e. let x = f.near (suc i) (suc j) (omega arith) (omega arith) e in omega arith;
  }
    where
      back : (w j : ℕ) → (i : ℕ) × (suc j < i) × (i < suc (length r)) × (get_or (u ∷ r) i 0 ≡ w) → (i : ℕ) × (j < i) × (i < length r) × (get_or r i 0 ≡ w)
      back w j t = go t.0 t.1 t.2 t.3
        where
          go : (i : ℕ) → suc j < i → i < suc (length r) → get_or (u ∷ r) i 0 ≡ w → (i : ℕ) × (j < i) × (i < length r) × (get_or r i 0 ≡ w)
          go zero a b e = absurd (omega arith)
          go (suc i) a b e = (i, omega arith, omega arith, e)

  pub fine_next : (u : ℕ) (r : List ℕ) → Fine W R n k (u ∷ r) → Next W R n k r u
  fine_next u r f = record {
    write = f.writes zero (omega arith);
    new = λ i h e. f.different zero (suc i) (omega arith) (omega arith) (sym e);
    after = λ w e. let t = f.earlier w zero (omega arith) e in go w t.0 t.1 t.2 t.3;
    close = λ i h e. let x = f.near zero (suc i) (omega arith) (omega arith) e in omega arith;
  }
    where
      go : (w i : ℕ) → zero < i → i < suc (length r) → get_or (u ∷ r) i 0 ≡ w → (i : ℕ) × (i < length r) × (get_or r i 0 ≡ w)
      go w zero a b e = absurd (omega arith)
      go w (suc i) a b e = (i, omega arith, e)

  module _ (u : ℕ) (r : List ℕ) (f : Fine W R n k r) (x : Next W R n k r u) where
    cons_writes : (j : ℕ) → j < suc (length r) → get_or (u ∷ r) j 0 < n
    cons_writes zero h = x.write
    cons_writes (suc j) h = f.writes j (omega arith)

    cons_diff : Diff (u ∷ r)
    cons_diff zero zero l h e = omega arith
    cons_diff zero (suc j) l h e = x.new j (omega arith) (sym e)
    cons_diff (suc i) zero l h e = omega arith
    cons_diff (suc i) (suc j) l h e = f.different i j (omega arith) (omega arith) e

    cons_earlier : (w j : ℕ) → j < suc (length r) → W w (get_or (u ∷ r) j 0) → (i : ℕ) × (j < i) × (i < suc (length r)) × (get_or (u ∷ r) i 0 ≡ w)
    cons_earlier w zero h e = let t = x.after w e in (suc t.0, omega arith, omega (arith, t.1), t.2)
    cons_earlier w (suc j) h e = let t = f.earlier w j (omega arith) e in (suc t.0, omega (arith, t.1), omega (arith, t.2), t.3)

    cons_near : (i j : ℕ) → i < j → j < suc (length r) → R (get_or (u ∷ r) i 0) (get_or (u ∷ r) j 0) → j ≤ i + (k - 1)
    cons_near zero zero l h e = omega arith
    cons_near zero (suc j) l h e = let y = x.close j (omega arith) e in omega arith
    cons_near (suc i) zero l h e = omega arith
    cons_near (suc i) (suc j) l h e = let y = f.near i j (omega arith) (omega arith) e in omega arith

    pub fine_cons : Fine W R n k (u ∷ r)
    fine_cons = record { writes = cons_writes; different = cons_diff; earlier = cons_earlier; near = cons_near }

  turned : (r : List ℕ) (i : ℕ) → i < length r → get_or (reverse r) i 0 ≡ get_or r (length r - 1 - i) 0
  turned r i h = get_or-reverse r i 0 h

  turned_back : (r : List ℕ) (i : ℕ) → i < length r → get_or (reverse r) (length r - 1 - i) 0 ≡ get_or r i 0
  turned_back r i h =
      let j : length r - 1 - (length r - 1 - i) ≡ i = omega arith in
      get_or-reverse r (length r - 1 - i) 0 (omega arith) ∙ ap (λ x. get_or r x 0) j

  -- turned round, it is a run-up
  pub run_up_of : (r : List ℕ) → 0 < length r → Fine W R n k r → Indexed W R n k (reverse r)
  run_up_of r some f =
      let len = length-reverse r in
      record {
        some = omega arith;
        writes = λ j h. subst (λ x. x < n) (sym (turned r j (omega arith))) (f.writes (length r - 1 - j) (omega arith));
        different = λ i j l h e. f.different (length r - 1 - j) (length r - 1 - i) (omega arith) (omega arith) (sym (turned r j (omega arith)) ∙ sym e ∙ turned r i (omega arith));
        earlier = λ u j h e.
            let t = f.earlier u (length r - 1 - j) (omega arith) (subst (W u) (turned r j (omega arith)) e) in
            (length r - 1 - t.0, omega (arith, t.1, t.2), turned_back r t.0 t.2 ∙ t.3);
        near = λ i j l h e.
            let x = f.near (length r - 1 - j) (length r - 1 - i) (omega arith) (omega arith) (subst₂ R (turned r j (omega arith)) (turned r i (omega arith)) e) in
            omega arith;
      }

  pub fine_of : (r : List ℕ) → Indexed W R n k (reverse r) → Fine W R n k r
  fine_of r p =
      let len = length-reverse r in
      record {
        writes = λ j h. subst (λ x. x < n) (turned_back r j h) (p.writes (length r - 1 - j) (omega arith));
        different = λ i j l h e. p.different (length r - 1 - j) (length r - 1 - i) (omega arith) (omega arith) (turned_back r j h ∙ sym e ∙ sym (turned_back r i (omega arith)));
        earlier = λ u j h e.
            let t = p.earlier u (length r - 1 - j) (omega arith) (subst (W u) (sym (turned_back r j h)) e) in
            (length r - 1 - t.0, omega (arith, t.1), omega (arith, t.1), sym (turned r t.0 (omega (arith, t.1))) ∙ t.2);
        near = λ i j l h e.
            let x = p.near (length r - 1 - j) (length r - 1 - i) (omega arith) (omega arith) (subst₂ R (sym (turned_back r i (omega arith))) (sym (turned_back r j h)) e) in
            omega arith;
      }

module _ (before behind : List ℕ) (n k : ℕ) (some_k : 0 < k) where
  pub next_may : (u : ℕ) (r : List ℕ) → Fine (Into n before) (From behind) n k r → Next (Into n before) (From behind) n k r u → may n before behind k r u ≡ true
  next_may u r f x =
      and_from _ _
      (not_from_false _ (ne_eqb _ 0 (λ e. apart (bit_xor (full n) (mask r)) (2 ^ u) e u (absent_in n r u x.write new) (own_bit u))))
      (and_from _ _
      (eq-eqb _ 0 (and_apart (get_or before u 0) (bit_xor (full n) (mask r)) (λ v a b.
      let out = absent_out n r v f.writes b in
      let t = x.after v (out.0, a) in
      let has = subst (Has (mask r)) t.2 (into_mask r t.0 f.different t.1) in
      omega (arith, out.1))))
      (eq-eqb _ 0 (and_apart (get_or behind u 0) (mask (drop (k - 1) r)) (λ v a b.
      let t = from_mask (drop (k - 1) r) v b in
      let len = length-drop (k - 1) r in
      let i : k - 1 + t.0 < length r = omega (arith, t.1) in
      let y = x.close (k - 1 + t.0) i (subst (Has (get_or behind u 0)) (sym t.2 ∙ get_or-drop (k - 1) r t.0 0) a) in
      absurd (omega arith)))))
    where
      new : mask r / 2 ^ u % 2 ≡ 0
      new = ⊎_elim (λ e. e) (λ e. let t = from_mask r u e in absurd (x.new t.0 t.1 t.2)) (two_ways (mask r) u)

  pub may_next : (u : ℕ) (r : List ℕ) → Fine (Into n before) (From behind) n k r → u < n → may n before behind k r u ≡ true → Next (Into n before) (From behind) n k r u
  may_next u r f h e =
      let a = and_parts _ _ e in
      let b = and_parts _ _ a.1 in
      record {
        write = h;
        new = λ i l s. eqb-false _ 0 (not-true _ a.0) (and_apart (bit_xor (full n) (mask r)) (2 ^ u) (λ v x y.
            let out = absent_out n r v f.writes x in
            let has = subst (Has (mask r)) (s ∙ sym (only_bit u v y)) (into_mask r i f.different l) in
            omega (arith, out.1)));
        after = λ w x. ⊎_elim
            (λ out. absurd (apart (get_or before u 0) (bit_xor (full n) (mask r)) (eqb-true _ 0 b.0) w x.1 (absent_in n r w x.0 out)))
            (from_mask r w)
            (two_ways (mask r) w);
        close = λ i l x.
            ⊎_elim (λ lt. lt)
            (λ le.
            let len = length-drop (k - 1) r in
            let j : k - 1 + (i - (k - 1)) ≡ i = omega arith in
            let s : get_or (drop (k - 1) r) (i - (k - 1)) 0 ≡ get_or r i 0 = get_or-drop (k - 1) r (i - (k - 1)) 0 ∙ ap (λ y. get_or r y 0) j in
            absurd (apart (get_or behind u 0) (mask (drop (k - 1) r)) (eqb-true _ 0 b.1) (get_or r i 0) x
            (subst (Has (mask (drop (k - 1) r))) s (into_mask (drop (k - 1) r) (i - (k - 1)) (diff_drop (k - 1) r f.different) (omega arith)))))
            (cases_lt i (k - 1));
      }
