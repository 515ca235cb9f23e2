-- The listing holds exactly the run-ups, each once, ascending. Assumes nothing.
use Rattle.std.proofs.Common.{◌≡◌, ℕ, zero, suc, ◌+◌, ◌<◌, ◌≤◌, Bool, true, false, cond, ◌⊎◌, List, [], ◌∷◌, ◌++◌, length, sym, refl, ap, ◌∙◌, subst, inl, inr, append_assoc, arith}
use Rattle.std.proofs.lemmas.Bool.{cases_eq}
use Rattle.orders.specs.RunUps.{Graph, RunUp, Comes, In, Ascending}
use Rattle.orders.specs.Listing.{Below, grows, over, extend, run_ups}
use Rattle.orders.specs.Claims.{ListingHoldsRunUps}
use Rattle.orders.proofs.Growing.{Sound, Grows, grows_is, is_grows, sound_front, sound_grow, last_grows, length_le}

-- a member of the first of two joined lists
in_left : (x : List ℕ) (l m : List (List ℕ)) → In x l → In x (l ++ m)
in_left x [] m h = elim h [ ]
in_left x (y ∷ ys) m (inl e) = inl e
in_left x (y ∷ ys) m (inr h) = inr (in_left x ys m h)

-- a member of the second
in_right : (x : List ℕ) (l m : List (List ℕ)) → In x m → In x (l ++ m)
in_right x [] m h = h
in_right x (y ∷ ys) m h = inr (in_right x ys m h)

-- a member is one of the first or of the second
in_either : (x : List ℕ) (l m : List (List ℕ)) → In x (l ++ m) → In x l ⊎ In x m
in_either x [] m h = inr h
in_either x (y ∷ ys) m (inl e) = inl (inl e)
in_either x (y ∷ ys) m (inr h) = go (in_either x ys m h)
  where
    go : In x ys ⊎ In x m → In x (y ∷ ys) ⊎ In x m
    go (inl a) = inl (inr a)
    go (inr a) = inr a

in_over : (c u : ℕ) (f : ℕ → List (List ℕ)) (x : List ℕ) (p : ℕ) → u ≤ p → p < u + c → In x (f p) → In x (over c u f)
in_over zero u f x p l m h = absurd (omega arith)
in_over (suc c) u f x p l m h = go (λ k. in_over c (suc u) f x p k (omega arith) h) (cases_eq p u)
  where
    go : (suc u ≤ p → In x (over c (suc u) f)) → ((p ≡ u) ⊎ (p ≡ u → ⊥)) → In x (f u ++ over c (suc u) f)
    go more (inl e) = in_left x (f u) (over c (suc u) f) (rw e at h)
    go more (inr e) = in_right x (f u) (over c (suc u) f) (more (omega arith))

over_in : (c u : ℕ) (f : ℕ → List (List ℕ)) (x : List ℕ) → In x (over c u f) → (p : ℕ) × (u ≤ p) × In x (f p)
over_in zero u f x h = elim h [ ]
over_in (suc c) u f x h = go (over_in c (suc u) f x) (in_either x (f u) (over c (suc u) f) h)
  where
    go : (In x (over c (suc u) f) → (p : ℕ) × (suc u ≤ p) × In x (f p)) → (In x (f u) ⊎ In x (over c (suc u) f)) → (p : ℕ) × (u ≤ p) × In x (f p)
    go more (inl a) = (u, omega arith, a)
    go more (inr a) = let y = more a in (y.0, omega (arith, y.1), y.2)

ascending_join : (l m : List (List ℕ)) → Ascending l → Ascending m → ((x y : List ℕ) → In x l → In y m → Comes x y) → Ascending (l ++ m)
ascending_join [] m a c h = c
ascending_join (x ∷ xs) m a c h = (first, ascending_join xs m a.1 c (λ y z i j. h y z (inr i) j))
  where
    first : (y : List ℕ) → In y (xs ++ m) → Comes x y
    first y i = go (in_either y xs m i)
      where
        go : In y xs ⊎ In y m → Comes x y
        go (inl j) = a.0 y j
        go (inr j) = h x y (inl refl) j

ascending_over : (c u : ℕ) (f : ℕ → List (List ℕ)) → ((p : ℕ) → Ascending (f p)) → ((p q : ℕ) (x y : List ℕ) → p < q → In x (f p) → In y (f q) → Comes x y) → Ascending (over c u f)
ascending_over zero u f a h = tt
ascending_over (suc c) u f a h = ascending_join (f u) (over c (suc u) f) (a u) (ascending_over c (suc u) f a h) (λ x y i j. (let z = over_in c (suc u) f y j in h u z.0 x y z.1 i z.2))

comes_append : (l x y : List ℕ) → Comes x y → Comes (l ++ x) (l ++ y)
comes_append [] x y h = h
comes_append (a ∷ l) x y h = inr (refl, comes_append l x y h)

chosen : (c : Bool) (x : List ℕ) (l : List (List ℕ)) → In x (cond c l []) → (c ≡ true) × In x l
chosen true x l h = (refl, h)
chosen false x l h = elim h [ ]

-- one more place
abbrev then : List ℕ → ℕ → List ℕ
then run p = run ++ (p ∷ [])

then_append : (run : List ℕ) (p : ℕ) (s : List ℕ) → then run p ++ s ≡ run ++ (p ∷ s)
then_append run p s = append_assoc run (p ∷ []) s

-- the sequence goes on from run, by at least one place
abbrev On : List ℕ → List ℕ → Type 0
On run x = (p : ℕ) × (s : List ℕ) × (x ≡ run ++ (p ∷ s))

-- if each goes on from run with p, or is that, each goes on from run by p
on_by : (run : List ℕ) (p : ℕ) (deep : List (List ℕ)) (x : List ℕ) → (In x deep → On (then run p) x) → In x (then run p ∷ deep) → (s : List ℕ) × (x ≡ run ++ (p ∷ s))
on_by run p deep x h (inl e) = ([], e)
on_by run p deep x h (inr i) = let z = h i in (z.0 ∷ z.1, z.2 ∙ then_append run p (z.0 ∷ z.1))

module _ (g : Graph) (n k : ℕ) where
  -- what is listed with p behind run
  abbrev rest : ℕ → List ℕ → ℕ → List (List ℕ)
  rest more run p = then run p ∷ extend g n k more (then run p)

  abbrev branch : ℕ → List ℕ → ℕ → List (List ℕ)
  branch more run p = cond (grows g n k run p) (rest more run p) []

  -- what is listed under run goes on from it
  extend_on : (more : ℕ) (run x : List ℕ) → In x (extend g n k more run) → On run x
  extend_on zero run x h = elim h [ ]
  extend_on (suc more) run x h =
      let y = over_in n 0 (branch more run) x h in
      let z = on_by run y.0 (extend g n k more (then run y.0)) x (extend_on more (then run y.0) x) (chosen _ x (rest more run y.0) y.2).1 in
      (y.0, z.0, z.1)

  branch_by : (more : ℕ) (run x : List ℕ) (p : ℕ) → In x (branch more run p) → (s : List ℕ) × (x ≡ run ++ (p ∷ s))
  branch_by more run x p h = on_by run p (extend g n k more (then run p)) x (extend_on more (then run p) x) (chosen _ x (rest more run p) h).1

  extend_ascending : (more : ℕ) (run : List ℕ) → Ascending (extend g n k more run)
  extend_ascending zero run = tt
  extend_ascending (suc more) run = ascending_over n 0 (branch more run) (λ p. one p (grows g n k run p) (extend_ascending more (then run p))) apart
    where
      first : (p : ℕ) (y : List ℕ) → In y (extend g n k more (then run p)) → Comes (then run p) y
      first p y i =
          let z = extend_on more (then run p) y i in
          let e : y ≡ run ++ (p ∷ z.0 ∷ z.1) = z.2 ∙ then_append run p (z.0 ∷ z.1) in
          rw e (comes_append run (p ∷ []) (p ∷ z.0 ∷ z.1) (inr (refl, tt)))

      one : (p : ℕ) (c : Bool) → Ascending (extend g n k more (then run p)) → Ascending (cond c (rest more run p) [])
      one p true a = (first p, a)
      one p false a = tt

      apart : (p q : ℕ) (x y : List ℕ) → p < q → In x (branch more run p) → In y (branch more run q) → Comes x y
      apart p q x y l i j =
          let u = branch_by more run x p i in
          let v = branch_by more run y q j in
          rw (u.1, v.1) (comes_append run (p ∷ u.0) (q ∷ v.0) (inl l))

  module _ (below : Below g n) where
    -- what is listed under a run-up, or nothing, is a run-up
    extend_sound : (more : ℕ) (run x : List ℕ) → Sound g k run → In x (extend g n k more run) → Sound g k x
    extend_sound zero run x sound h = elim h [ ]
    extend_sound (suc more) run x sound h =
        let y = over_in n 0 (branch more run) x h in
        let c = chosen _ x (rest more run y.0) y.2 in
        go y.0 (sound_grow g k run y.0 sound (grows_is g n k below run y.0 sound c.0)) (extend_sound more (then run y.0) x) c.1
      where
        go : (p : ℕ) → Sound g k (then run p) → (Sound g k (then run p) → In x (extend g n k more (then run p)) → Sound g k x) → In x (rest more run p) → Sound g k x
        go p here deeper (inl e) = rw e here
        go p here deeper (inr i) = deeper here i

    -- and every run-up that goes on from it is listed
    extend_complete : (more : ℕ) (run : List ℕ) (p : ℕ) (s : List ℕ) → Sound g k (run ++ (p ∷ s)) → length (p ∷ s) ≤ more → In (run ++ (p ∷ s)) (extend g n k more run)
    extend_complete zero run p s sound h = absurd (omega arith)
    extend_complete (suc more) run p s sound h = in_over n 0 (branch more run) _ p (omega arith) (omega (arith, below p last.write)) (rw (is_grows g n k below run p last) (go s sound h (λ q t. extend_complete more (then run p) q t)))
      where
        last : Grows g k run p
        last = last_grows g k run p (sound_front g k (then run p) s (rw (sym (then_append run p s)) at sound))

        go : (s : List ℕ) → Sound g k (run ++ (p ∷ s)) → length (p ∷ s) ≤ suc more → ((q : ℕ) (t : List ℕ) → Sound g k (then run p ++ (q ∷ t)) → length (q ∷ t) ≤ more → In (then run p ++ (q ∷ t)) (extend g n k more (then run p))) → In (run ++ (p ∷ s)) (rest more run p)
        go [] q l deeper = inl refl
        go (a ∷ t) q l deeper = inr (subst (λ (x : List ℕ). In x (extend g n k more (then run p))) (then_append run p (a ∷ t)) (deeper a t (rw (sym (then_append run p (a ∷ t))) at q) (omega arith)))

-- the listing holds exactly the run-ups, each once, ascending
pub listing_holds_run_ups : ListingHoldsRunUps
listing_holds_run_ups g n k below = (λ run. (sound run, complete run), extend_ascending g n k n [])
  where
    none : Sound g k []
    none = record { once = λ p. omega arith; closed = λ u v w h e. absurd (omega arith); near = λ u v h m e l. absurd (omega arith) }

    sound : (run : List ℕ) → In run (run_ups g n k) → RunUp g k run
    sound run h =
        let s = extend_sound g n k below n [] run none h in
        record { some = omega (arith, ap length (extend_on g n k n [] run h).2); once = s.once; closed = s.closed; near = s.near }

    complete : (run : List ℕ) → RunUp g k run → In run (run_ups g n k)
    complete [] r = absurd (omega (arith, r.some))
    complete (p ∷ s) r = extend_complete g n k below n [] p s (record { once = r.once; closed = r.closed; near = r.near }) (length_le g n k below (p ∷ s) r.once)
