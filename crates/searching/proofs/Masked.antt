-- The writes that stand, as a list with the last first, and the masks that go with it.
use Rattle.std.proofs.Common.{◌≡◌, ℕ, zero, suc, ◌+◌, ◌-◌, ◌^◌, ◌<◌, ◌≤◌, leb, ◌≢◌, List, [], ◌∷◌, ◌++◌, reverse, length, get_or, take, drop, set, sym, refl, ap, ◌∙◌, subst, ap₂, ⊎_elim, add-one, arith, length-set}
use mathlib.Core.List.{reverse-cons}
use lib.Bits.{bit_xor, xor_assoc, xor_self, xor_zero_r}
use Rattle.std.proofs.lemmas.List.{get_or-set_same, get_or-set_other, take_more}
use Rattle.std.proofs.lemmas.Bool.{cases_eq, cond_both, leb-true, leb-false}
use Rattle.searching.specs.Standing.{free, Holds, started, pushed, popped}
use Rattle.searching.specs.declared.standing.Standing.{Standing}
use Rattle.searching.proofs.BitSets.{mask, full}
use Rattle.searching.proofs.Fine.{may}

-- the first m entries, the last first
pub stack : List ℕ → ℕ → List ℕ
stack xs zero = []
stack xs (suc m) = get_or xs m 0 ∷ stack xs m

pub members : Standing → List ℕ
members s = stack s.writes s.count

stack_suc : (xs : List ℕ) (m : ℕ) → stack xs (suc m) ≡ get_or xs m 0 ∷ stack xs m
unfolding stack
stack_suc xs m = refl

stack_none : (xs : List ℕ) → stack xs 0 ≡ []
unfolding stack
stack_none xs = refl

length_stack : (xs : List ℕ) (m : ℕ) → length (stack xs m) ≡ m
unfolding stack
length_stack xs zero = refl
length_stack xs (suc m) = ap suc (length_stack xs m)

stack_set : (xs : List ℕ) (i v m : ℕ) → m ≤ i → stack (set xs i v) m ≡ stack xs m
unfolding stack
stack_set xs i v zero h = refl
stack_set xs i v (suc m) h =
    let ne : m ≢ i = omega arith in
    ap₂ (λ (x : ℕ) (l : List ℕ). x ∷ l) (get_or-set_other xs i m v 0 ne) (stack_set xs i v m (omega arith))

-- turned round, the first m entries
turned_stack : (xs : List ℕ) (m : ℕ) → m ≤ length xs → reverse (stack xs m) ≡ take m xs
unfolding stack
turned_stack xs zero h = refl
turned_stack xs (suc m) h =
    reverse-cons (get_or xs m 0) (stack xs m)
    ∙ ap (λ l. l ++ get_or xs m 0 ∷ []) (turned_stack xs m (omega arith))
    ∙ sym (take_more xs m 0 h)
    ∙ ap (λ i. take i xs) (add-one m)

drop_stack : (xs : List ℕ) (j m : ℕ) → drop j (stack xs m) ≡ stack xs (m - j)
unfolding stack
drop_stack xs zero m = let z : m - 0 ≡ m = omega arith in rw z
drop_stack xs (suc j) zero = let z : 0 - suc j ≡ 0 = omega arith in rw z
drop_stack xs (suc j) (suc m) = let z : suc m - suc j ≡ m - j = omega arith in rw z (drop_stack xs j m)

xor_back : (a b : ℕ) → bit_xor (bit_xor a b) b ≡ a
xor_back a b = xor_assoc a b b ∙ ap (bit_xor a) (xor_self b) ∙ xor_zero_r a

-- the masks are those of the members, all of them below n
pub record Sound (n k : ℕ) (s : Standing) : Type 0 where
  pub small : n ≤ 64
  pub some_k : 0 < k
  pub room : length s.writes ≡ 64
  pub short : s.count ≤ n
  pub inside : (i : ℕ) → i < s.count → get_or s.writes i 0 < n
  pub absent_is : s.absent ≡ bit_xor (full n) (mask (members s))
  pub far_is : s.far ≡ mask (stack s.writes (s.count - (k - 1)))

pub holds_more : (s : Standing) (write absent far : ℕ) → Holds s → s.count < 64 → write < 64 → Holds (record { writes = set s.writes s.count write; count = s.count + 1; absent = absent; far = far })
holds_more s write absent far h l b = record {
  room = simp length-set h.room;
  small = λ i m. ⊎_elim
      (λ e. subst (λ j. get_or (set s.writes s.count write) j 0 < 64) (sym e)
      (subst (λ x. x < 64) (sym (get_or-set_same s.writes s.count write 0 (omega (arith, h.room)))) b))
      (λ ne. subst (λ x. x < 64) (sym (get_or-set_other s.writes s.count i write 0 ne)) (h.small i (omega arith)))
      (cases_eq i s.count);
  within = omega arith;
}

pub sound_started : (n k : ℕ) → n ≤ 64 → 0 < k → Sound n k (started n)
unfolding members
sound_started n k h l = record {
  small = h;
  some_k = l;
  room = refl;
  short = omega arith;
  inside = λ i l. absurd (omega arith);
  absent_is = sym (ap (λ q. bit_xor (full n) (mask q)) (stack_none (started n).writes) ∙ xor_zero_r (full n));
  far_is = let z : 0 - (k - 1) ≡ 0 = omega arith in sym (ap (λ m. mask (stack (started n).writes m)) z ∙ ap mask (stack_none (started n).writes));
}

module _ {n k : ℕ} {s : Standing} (o : Sound n k s) where
  pub members_length : length (members s) ≡ s.count
  unfolding members
  members_length = length_stack s.writes s.count

  pub members_turned : s.count ≡ n → reverse (members s) ≡ take n s.writes
  unfolding members
  members_turned e = turned_stack s.writes s.count (omega (arith, o.room, o.small)) ∙ ap (λ m. take m s.writes) e

  pub holds : Holds s
  holds = record {
    room = o.room;
    small = λ i l. let lt = o.inside i l in omega (arith, o.small);
    within = omega (arith, o.short, o.small);
  }

  pub tested : (before behind : List ℕ) (u : ℕ) → free u (get_or before u 0) (get_or behind u 0) s.absent s.far ≡ may n before behind k (members s) u
  unfolding members
  tested before behind u =
      ap₂ (λ (x y : ℕ). free u (get_or before u 0) (get_or behind u 0) x y) o.absent_is (o.far_is ∙ ap mask (sym (drop_stack s.writes (k - 1) s.count)))

  -- with nothing standing, it is as well for another k
  pub sound_again : (j : ℕ) → 0 < j → s.count ≡ 0 → Sound n j s
  sound_again j h e = record {
    small = o.small;
    some_k = h;
    room = o.room;
    short = o.short;
    inside = o.inside;
    absent_is = o.absent_is;
    far_is = let a : s.count - (k - 1) ≡ s.count - (j - 1) = omega arith in o.far_is ∙ ap (λ m. mask (stack s.writes m)) a;
  }

  pub members_none : s.count ≡ 0 → members s ≡ []
  unfolding members
  members_none e = ap (stack s.writes) e ∙ stack_none s.writes

  module _ (u : ℕ) (h : u < n) (l : s.count < n) where
    pub members_pushed : members (pushed k u s) ≡ u ∷ members s
    unfolding members
    members_pushed =
        ap (stack (set s.writes s.count u)) (add-one s.count)
        ∙ stack_suc (set s.writes s.count u) s.count
        ∙ ap₂ (λ (x : ℕ) (q : List ℕ). x ∷ q) (get_or-set_same s.writes s.count u 0 (omega (arith, o.room, o.small))) (stack_set s.writes s.count u s.count (omega arith))

    pushed_inside : (i : ℕ) → i < s.count + 1 → get_or (set s.writes s.count u) i 0 < n
    pushed_inside i m =
        ⊎_elim
        (λ e. subst (λ j. get_or (set s.writes s.count u) j 0 < n) (sym e) (subst (λ x. x < n) (sym (get_or-set_same s.writes s.count u 0 (omega (arith, o.room, o.small)))) h))
        (λ ne. subst (λ x. x < n) (sym (get_or-set_other s.writes s.count i u 0 ne)) (o.inside i (omega arith)))
        (cases_eq i s.count)

    pushed_far : (pushed k u s).far ≡ mask (stack (set s.writes s.count u) (s.count + 1 - (k - 1)))
    pushed_far =
        cond_both (leb k (s.count + 1)) _ _ (λ x. x ≡ mask (stack (set s.writes s.count u) (s.count + 1 - (k - 1))))
        (λ e.
        let le = leb-true k (s.count + 1) e in
        let some_k = o.some_k in
        let j : s.count + 1 - (k - 1) ≡ suc (s.count + 1 - k) = omega arith in
        let i : s.count - (k - 1) ≡ s.count + 1 - k = omega arith in
        ap (λ x. bit_xor x (2 ^ get_or (set s.writes s.count u) (s.count + 1 - k) 0))
        (o.far_is ∙ ap (λ x. mask (stack s.writes x)) i ∙ ap mask (sym (stack_set s.writes s.count u (s.count + 1 - k) (omega arith))))
        ∙ ap mask (sym (stack_suc (set s.writes s.count u) (s.count + 1 - k)))
        ∙ ap (λ x. mask (stack (set s.writes s.count u) x)) (sym j))
        (λ e.
        let gt = leb-false k (s.count + 1) e in
        let j : s.count + 1 - (k - 1) ≡ 0 = omega arith in
        let i : s.count - (k - 1) ≡ 0 = omega arith in
        o.far_is
        ∙ ap (λ x. mask (stack s.writes x)) i
        ∙ ap mask (stack_none s.writes ∙ sym (stack_none (set s.writes s.count u)))
        ∙ ap (λ x. mask (stack (set s.writes s.count u) x)) (sym j))

    pub sound_pushed : Sound n k (pushed k u s)
    sound_pushed = record {
      small = o.small;
      some_k = o.some_k;
      room = simp length-set o.room;
      short = omega arith;
      inside = pushed_inside;
      absent_is =
          ap (λ x. bit_xor x (2 ^ u)) o.absent_is
          ∙ xor_assoc (full n) (mask (members s)) (2 ^ u)
          ∙ ap (λ q. bit_xor (full n) (mask q)) (sym members_pushed);
      far_is = pushed_far;
    }

  module _ (some : 0 < s.count) where
    abbrev top : ℕ
    top = get_or s.writes (s.count - 1) 0

    pub top_inside : get_or s.writes (s.count - 1) 0 < n
    top_inside = o.inside (s.count - 1) (omega arith)

    pub members_popped : members s ≡ get_or s.writes (s.count - 1) 0 ∷ members (popped k s)
    unfolding members
    members_popped =
        let j : s.count ≡ suc (s.count - 1) = omega arith in
        ap (stack s.writes) j ∙ stack_suc s.writes (s.count - 1)

    popped_far : (popped k s).far ≡ mask (stack s.writes (s.count - 1 - (k - 1)))
    popped_far =
        cond_both (leb k s.count) _ _ (λ x. x ≡ mask (stack s.writes (s.count - 1 - (k - 1))))
        (λ e.
        let le = leb-true k s.count e in
        let some_k = o.some_k in
        let j : s.count - (k - 1) ≡ suc (s.count - k) = omega arith in
        let i : s.count - 1 - (k - 1) ≡ s.count - k = omega arith in
        ap (λ x. bit_xor x (2 ^ get_or s.writes (s.count - k) 0)) (o.far_is ∙ ap (λ x. mask (stack s.writes x)) j ∙ ap mask (stack_suc s.writes (s.count - k)))
        ∙ xor_back (mask (stack s.writes (s.count - k))) (2 ^ get_or s.writes (s.count - k) 0)
        ∙ ap (λ x. mask (stack s.writes x)) (sym i))
        (λ e.
        let gt = leb-false k s.count e in
        let i : s.count - (k - 1) ≡ s.count - 1 - (k - 1) = omega arith in
        o.far_is ∙ ap (λ x. mask (stack s.writes x)) i)

    pub sound_popped : Sound n k (popped k s)
    sound_popped = record {
      small = o.small;
      some_k = o.some_k;
      room = o.room;
      short = omega (arith, o.short);
      inside = λ i l. o.inside i (omega arith);
      absent_is =
          ap (λ x. bit_xor x (2 ^ top)) (o.absent_is ∙ ap (λ q. bit_xor (full n) (mask q)) members_popped)
          ∙ ap (λ x. bit_xor x (2 ^ top)) (sym (xor_assoc (full n) (mask (members (popped k s))) (2 ^ top)))
          ∙ xor_back (bit_xor (full n) (mask (members (popped k s)))) (2 ^ top);
      far_is = popped_far;
    }
