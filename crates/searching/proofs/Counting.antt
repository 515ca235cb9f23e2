-- What the counts on an ascending listing of all run-ups say.
use Rattle.std.proofs.Common.{◌≡◌, ℕ, suc, ◌<◌, ◌≤◌, true, cond, eqb, List, [], ◌∷◌, map, reverse, length, sym, refl, ap, ◌∙◌, subst, subst₂, inl, inr, ⊎_elim, arith}
use mathlib.Core.Option.{none, some}
use mathlib.Core.List.{reverse_aux, reverse-reverse}
use lib.ListN.{length-reverse}
use Rattle.std.proofs.lemmas.Bool.{cases_eq, eq-eqb, ne_eqb}
use Rattle.orders.proofs.Unique.{comes_once}
use Rattle.orders.specs.RunUps.{Graph, RunUp, ValueOrder, Comes, In, Ascending, Trials, First, NoneFor}
use Rattle.searching.specs.Masks.{mask_graph}
use Rattle.searching.proofs.Indices.{Into, From, indexed, unindexed, run_up_few, order_length, full_order}
use Rattle.searching.proofs.Fine.{Fine, may, fine_none, fine_tail, fine_next, fine_cons, run_up_of, fine_of, next_may, may_next}
use Rattle.searching.proofs.Enumeration.{below, trials, first}
use Rattle.searching.proofs.Holding.{in_mapped, mapped_in}
use Rattle.searching.proofs.Listing.{Asc, below_asc, below_good, below_all, below_ext}

pub not_self : (p : List ℕ) → Comes p p → ⊥
not_self p b = comes_once p p b b

module _ (n : ℕ) where
  upto : List (List ℕ) → List (List ℕ)
  upto [] = []
  upto (p ∷ ps) = p ∷ cond (eqb (length p) n) [] (upto ps)

  upto_full : (p : List ℕ) (ps : List (List ℕ)) → length p ≡ n → upto (p ∷ ps) ≡ p ∷ []
  unfolding upto
  upto_full p ps e = rw (eq-eqb (length p) n e)

  upto_short : (p : List ℕ) (ps : List (List ℕ)) → (length p ≡ n → ⊥) → upto (p ∷ ps) ≡ p ∷ upto ps
  unfolding upto
  upto_short p ps e = rw (ne_eqb (length p) n e)

  upto_none : upto [] ≡ []
  unfolding upto
  upto_none = refl

  -- by whether the first has all writes
  split : (p : List ℕ) (ps : List (List ℕ)) (P : List (List ℕ) → Type 0) → (length p ≡ n → P (p ∷ [])) → ((length p ≡ n → ⊥) → P (p ∷ upto ps)) → P (upto (p ∷ ps))
  split p ps P t f =
      ⊎_elim
      (λ e. subst P (sym (upto_full p ps e)) (t e))
      (λ e. subst P (sym (upto_short p ps e)) (f e))
      (cases_eq (length p) n)

  upto_in : (q : List ℕ) (s : List (List ℕ)) → In q (upto s) → In q s
  upto_in q [] m = subst (In q) upto_none m
  upto_in q (p ∷ ps) m =
      let more = upto_in q ps in
      split p ps (λ l. In q l → In q (p ∷ ps))
      (λ e x. ⊎_elim (λ is. inl is) absurd x)
      (λ e x. ⊎_elim (λ is. inl is) (λ y. inr (more y)) x)
      m

  upto_asc : (s : List (List ℕ)) → Ascending s → Ascending (upto s)
  upto_asc [] a = subst Ascending (sym upto_none) tt
  upto_asc (p ∷ ps) a =
      let more = upto_asc ps a.1 in
      split p ps Ascending (λ e. (λ q m. absurd m, tt)) (λ e. (λ q m. a.0 q (upto_in q ps m), more))

  upto_length : (s : List (List ℕ)) → length (upto s) ≡ trials n s
  unfolding upto trials
  upto_length [] = refl
  upto_length (p ∷ ps) =
      let more = upto_length ps in
      ⊎_elim
      (λ e. rw (eq-eqb (length p) n e))
      (λ e. rw (ne_eqb (length p) n e) (ap suc more))
      (cases_eq (length p) n)

  upto_only : (s : List (List ℕ)) → Ascending s → (p q : List ℕ) → In p (upto s) → In q s → length q ≡ n → Comes q p → ⊥
  upto_only [] a p q m = λ k e b. absurd k
  upto_only (x ∷ xs) a p q m =
      let more = upto_only xs a.1 p q in
      split x xs (λ l. In p l → In q (x ∷ xs) → length q ≡ n → Comes q p → ⊥)
      (λ e m k f b. ⊎_elim (λ is. own is k b) absurd m)
      (λ e m k f b. ⊎_elim (λ is. own is k b) (λ y. ⊎_elim (λ is. e (ap length (sym is) ∙ f)) (λ z. more y z f b) k) m)
      m
    where
      own : p ≡ x → In q (x ∷ xs) → Comes q p → ⊥
      own is k b =
          ⊎_elim
          (λ same. not_self x (subst₂ Comes same is b))
          (λ z. comes_once x q (a.0 q z) (subst (Comes q) is b))
          k

  upto_all : (s : List (List ℕ)) → Ascending s → (p : List ℕ) → In p s → ((q : List ℕ) → In q s → length q ≡ n → Comes q p → ⊥) → In p (upto s)
  upto_all [] a p m h = absurd m
  upto_all (x ∷ xs) a p m h =
      let more = upto_all xs a.1 p in
      split x xs (In p)
      (λ e. ⊎_elim (λ is. inl is) (λ y. absurd (h x (inl refl) e (a.0 p y))) m)
      (λ e. ⊎_elim (λ is. inl is) (λ y. inr (more y (λ q z. h q (inr z)))) m)

  first_in : (s : List (List ℕ)) → Ascending s → (p : List ℕ) → first n s ≡ some p → In p s × (length p ≡ n) × ((q : List ℕ) → In q s → length q ≡ n → Comes q p → ⊥)
  unfolding first
  first_in [] a p = λ e. let z : ◌≡◌ {A = ℕ} 0 1 = cc in absurd (omega arith)
  first_in (x ∷ xs) a p =
      let more = first_in xs a.1 p in
      ⊎_elim
      (λ f. rw (eq-eqb (length x) n f) (λ e.
      let is : x ≡ p = cc in (
        inl (sym is),
        ap length (sym is) ∙ f,
        λ q m g b.
            ⊎_elim
            (λ same. not_self x (subst₂ Comes same (sym is) b))
            (λ z. comes_once x q (a.0 q z) (subst (Comes q) (sym is) b))
            m,
      )))
      (λ f. rw (ne_eqb (length x) n f) (λ e.
      let t = more e in
      (inr t.0, t.1, λ q m g b. ⊎_elim (λ same. f (ap length (sym same) ∙ g)) (λ z. t.2 q z g b) m)))
      (cases_eq (length x) n)

  first_none : (s : List (List ℕ)) → first n s ≡ none → (q : List ℕ) → In q s → length q ≡ n → ⊥
  unfolding first
  first_none [] = λ e q m g. absurd m
  first_none (x ∷ xs) =
      let more = first_none xs in
      ⊎_elim
      (λ f. rw (eq-eqb (length x) n f) (λ e. let z : ◌≡◌ {A = ℕ} 0 1 = cc in absurd (omega arith)))
      (λ f. rw (ne_eqb (length x) n f) (λ e q m g. ⊎_elim (λ same. f (ap length (sym same) ∙ g)) (λ z. more e q z g) m))
      (cases_eq (length x) n)

  trials_turned : (l : List (List ℕ)) → trials n (map reverse l) ≡ trials n l
  unfolding trials
  trials_turned [] = refl
  trials_turned (p ∷ ps) = let more = trials_turned ps in rw (length-reverse p, more)

  first_turned : (l : List (List ℕ)) (r : List ℕ) → first n l ≡ some r → first n (map reverse l) ≡ some (reverse r)
  unfolding first
  first_turned [] r = λ e. let z : ◌≡◌ {A = ℕ} 0 1 = cc in absurd (omega arith)
  first_turned (p ∷ ps) r =
      let more = first_turned ps r in
      let len = length-reverse p in
      ⊎_elim
      (λ f. rw (len, eq-eqb (length p) n f) (λ e. let is : p ≡ r = cc in ap (λ x. some (reverse x)) is))
      (λ f. rw (len, ne_eqb (length p) n f) more)
      (cases_eq (length p) n)

  none_turned : (l : List (List ℕ)) → first n l ≡ none → first n (map reverse l) ≡ none
  unfolding first
  none_turned [] = λ e. refl
  none_turned (p ∷ ps) =
      let more = none_turned ps in
      let len = length-reverse p in
      ⊎_elim
      (λ f. rw (len, eq-eqb (length p) n f) (λ e. let z : ◌≡◌ {A = ℕ} 0 1 = cc in absurd (omega arith)))
      (λ f. rw (len, ne_eqb (length p) n f) more)
      (cases_eq (length p) n)

map_asc : (l : List (List ℕ)) → Asc l → Ascending (map reverse l)
map_asc [] a = tt
map_asc (x ∷ xs) a = (λ q m. let t = in_mapped reverse xs q m in subst (Comes (reverse x)) (sym t.2) (a.0 t.0 t.1), map_asc xs a.1)

grown : (vs q : List ℕ) → length q ≤ length (reverse_aux vs q)
grown [] q = omega arith
grown (v ∷ vs) q = let more = grown vs (v ∷ q) in omega arith

module _ (before behind : List ℕ) (n k : ℕ) (some_k : 0 < k) where
  abbrev g : Graph
  g = mask_graph n before behind

  abbrev G : List ℕ → Type 0
  G = Fine (Into n before) (From behind) n k

  grow : (u : ℕ) (p : List ℕ) → G p → u < n → may n before behind k p u ≡ true → G (u ∷ p)
  grow u p f lt e = fine_cons _ _ n k u p f (may_next before behind n k some_k u p f lt e)

  last : (u : ℕ) (p : List ℕ) → G (u ∷ p) → (u < n) × (may n before behind k p u ≡ true)
  last u p f =
      let x = fine_next (Into n before) (From behind) n k u p f in
      (x.write, next_may before behind n k some_k u p (fine_tail (Into n before) (From behind) n k u p f) x)

  -- all run-ups, in their order
  abbrev listing : List (List ℕ)
  listing = below n (may n before behind k) n []

  listing_asc : Ascending (map reverse listing)
  listing_asc = map_asc listing (below_asc n (may n before behind k) n [])

  listing_only : (p : List ℕ) → In p (map reverse listing) → RunUp g k p
  listing_only p m =
      let t = in_mapped reverse listing p m in
      let x = below_ext n (may n before behind k) n [] t.0 t.1 in
      let len : length (x.0 ∷ []) ≤ length t.0 = subst (λ l. length (x.0 ∷ []) ≤ length l) (sym x.3) (grown x.1 (x.0 ∷ [])) in
      let f = below_good n (may n before behind k) G grow (fine_tail (Into n before) (From behind) n k) last n [] t.0 (fine_none _ _ n k) t.1 in
      subst (RunUp g k) (sym t.2) (unindexed before behind n k (run_up_of _ _ n k t.0 (omega arith) f))

  listing_all : (p : List ℕ) → RunUp g k p → In p (map reverse listing)
  listing_all [] u = absurd (omega (arith, u.some))
  listing_all (v ∷ vs) u =
      let twice = reverse-reverse (v ∷ vs) in
      let f : G (reverse (v ∷ vs)) = fine_of _ _ n k (reverse (v ∷ vs)) (indexed before behind n k (subst (RunUp g k) (sym twice) u)) in
      let few = run_up_few g n k (λ _. refl) u in
      let m = below_all n (may n before behind k) G grow (fine_tail (Into n before) (From behind) n k) last n vs v [] f (omega arith) in
      subst (λ l. In l (map reverse listing)) twice (mapped_in reverse listing (reverse (v ∷ vs)) m)

  whole : {q : List ℕ} → ValueOrder g k q → length q ≡ n
  whole v = order_length g n k (λ _. refl) v

  order_of : (q : List ℕ) → In q (map reverse listing) → length q ≡ n → ValueOrder g k q
  order_of q m e = full_order g n k (λ _. refl) (listing_only q m) e

  pub trials_are : Trials g k (trials n listing)
  trials_are = record {
    listed = upto n (map reverse listing);
    number = upto_length n (map reverse listing) ∙ trials_turned n listing;
    ascending = upto_asc n (map reverse listing) listing_asc;
    only = λ p m. (listing_only p (upto_in n p (map reverse listing) m), λ q v b. upto_only n (map reverse listing) listing_asc p q m (listing_all q v.run_up) (whole v) b);
    all = λ p u un. upto_all n (map reverse listing) listing_asc p (listing_all p u) (λ q m e b. un q (order_of q m e) b);
  }

  pub first_order : (r : List ℕ) → first n listing ≡ some r → First g k (reverse r)
  first_order r e =
      let t = first_in n (map reverse listing) listing_asc (reverse r) (first_turned n listing r e) in
      record {
        order = order_of (reverse r) t.0 t.1;
        unbeaten = λ q v b. t.2 q (listing_all q v.run_up) (whole v) b;
      }

  pub no_order : first n listing ≡ none → NoneFor g k
  no_order e q v = first_none n (map reverse listing) (none_turned n listing e) q (listing_all q v.run_up) (whole v)
