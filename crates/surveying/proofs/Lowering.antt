-- The lowest places with faults, over more and more bays. Assumes nothing.
use Rattle.std.proofs.Common.{◌≡◌, ℕ, ◌+◌, ◌<◌, ◌≤◌, min, Bool, true, false, ◌&&◌, ◌||◌, eqb, ltb, ◌⊎◌, List, length, Some, None, Option, sym, refl, ap, ◌∙◌, subst, inl, inr, arith}
use Rattle.std.proofs.lemmas.Bool.{cases_lt, cases_order, lt-ltb, le-ltb, eq-eqb, ne_eqb, and_left, or_from, or_left, or_right}
use Rattle.orders.specs.Orders.{Operation, at, of_bay, whole}
use Rattle.bays.specs.Faults.{written_twice, unwritten, foreseen, faulty, Lowest}
use Rattle.gathering.specs.declared.faults.Faults.{Faults}
use Rattle.surveying.specs.Faults.{lower_of, joined, FaultsOf}
use Rattle.surveying.specs.Laws.{InCrane}
use Rattle.surveying.specs.Surveying.{crane_bays}

-- the lowest place for either of two tests
lowest_or : (n : ℕ) (f g : ℕ → Bool) (x y : Option ℕ) → Lowest n f x → Lowest n g y → Lowest n (λ p. f p || g p) (lower_of x y)
lowest_or n f g None None a b = λ q h. or_from (f q) (g q) (a q h) (b q h)
lowest_or n f g None (Some q) a b = (b.0, or_right (f q) (g q) b.1, λ r l. or_from (f r) (g r) (a r (omega (arith, b.0))) (b.2 r l))
lowest_or n f g (Some p) None a b = (a.0, or_left (f p) (g p) a.1, λ r l. or_from (f r) (g r) (a.2 r l) (b r (omega (arith, a.0))))
lowest_or n f g (Some p) (Some q) a b = go (cases_lt p q)
  where
    go : ((p < q) ⊎ (q ≤ p)) → Lowest n (λ p. f p || g p) (Some (min p q))
    go (inl lt) = let e : p ≡ min p q = omega arith in subst (λ m. Lowest n (λ p. f p || g p) (Some m)) e (a.0, or_left (f p) (g p) a.1, λ r l. or_from (f r) (g r) (a.2 r l) (b.2 r (omega arith)))
    go (inr le) = let e : q ≡ min p q = omega arith in subst (λ m. Lowest n (λ p. f p || g p) (Some m)) e (b.0, or_right (f q) (g q) b.1, λ r l. or_from (f r) (g r) (a.2 r (omega arith)) (b.2 r l))

-- tests that agree have the same lowest place
lowest_as : (n : ℕ) (f g : ℕ → Bool) (x : Option ℕ) → ((p : ℕ) → p < n → f p ≡ g p) → Lowest n f x → Lowest n g x
lowest_as n f g None same a = λ q h. sym (same q h) ∙ a q h
lowest_as n f g (Some p) same a = (a.0, sym (same p a.0) ∙ a.1, λ r l. sym (same r (omega (arith, a.0))) ∙ a.2 r l)

either : (a b t : Bool) → ((a && t) || (b && t)) ≡ ((a || b) && t)
either true true true = refl
either true true false = refl
either true false true = refl
either true false false = refl
either false b t = refl

-- the operations of bays below n
abbrev pub bays_below : ℕ → Operation → Bool
bays_below n o = ltb o.bay n

module _ (ops : List Operation) where
  -- one fault, where the same operations are held,
  fault_same : (one other : Operation → Bool) (fault : List Operation → ℕ → Bool) (x : Option ℕ) → ((p : ℕ) → p < length ops → one (at ops p) ≡ other (at ops p)) → Lowest (length ops) (faulty one fault ops) x → Lowest (length ops) (faulty other fault ops) x
  fault_same one other fault x same = lowest_as (length ops) (faulty one fault ops) (faulty other fault ops) x (λ p h. ap (λ t. t && fault ops p) (same p h))

  -- and of either operations
  fault_either : (one other : Operation → Bool) (fault : List Operation → ℕ → Bool) (x y : Option ℕ) → Lowest (length ops) (faulty one fault ops) x → Lowest (length ops) (faulty other fault ops) y → Lowest (length ops) (faulty (λ o. one o || other o) fault ops) (lower_of x y)
  fault_either one other fault x y a b =
      lowest_as (length ops) (λ p. faulty one fault ops p || faulty other fault ops p) (faulty (λ o. one o || other o) fault ops) (lower_of x y) (λ p h. either (one (at ops p)) (other (at ops p)) (fault ops p))
      (lowest_or (length ops) (faulty one fault ops) (faulty other fault ops) x y a b)

  -- so of all faults
  faults_same : (one other : Operation → Bool) (x : Faults) → ((p : ℕ) → p < length ops → one (at ops p) ≡ other (at ops p)) → FaultsOf ops one x → FaultsOf ops other x
  faults_same one other x same a = record {
    twice = fault_same one other written_twice x.written_twice same a.twice;
    lacking = fault_same one other unwritten x.unwritten same a.lacking;
    early = fault_same one other foreseen x.foreseen same a.early;
  }

  faults_either : (one other : Operation → Bool) (x y : Faults) → FaultsOf ops one x → FaultsOf ops other y → FaultsOf ops (λ o. one o || other o) (joined x y)
  faults_either one other x y a b = record {
    twice = fault_either one other written_twice x.written_twice y.written_twice a.twice b.twice;
    lacking = fault_either one other unwritten x.unwritten y.unwritten a.lacking b.lacking;
    early = fault_either one other foreseen x.foreseen y.foreseen a.early b.early;
  }

  -- none at first,
  pub faults_none : (x : Faults) → (x.written_twice ≡ None) × ((x.unwritten ≡ None) × (x.foreseen ≡ None)) → FaultsOf ops (bays_below 0) x
  faults_none x (twice, (lacking, early)) = record { twice = none written_twice x.written_twice twice; lacking = none unwritten x.unwritten lacking; early = none foreseen x.foreseen early }
    where
      none : (fault : List Operation → ℕ → Bool) (place : Option ℕ) → place ≡ None → Lowest (length ops) (faulty (bays_below 0) fault ops) place
      none fault place e = subst (Lowest (length ops) (faulty (bays_below 0) fault ops)) (sym e) (λ p h. and_left (bays_below 0 (at ops p)) (fault ops p) (le-ltb (at ops p).bay 0 (omega arith)))

  -- those of one bay more,
  pub faults_more : (n : ℕ) (x y : Faults) → FaultsOf ops (bays_below n) x → FaultsOf ops (of_bay n) y → FaultsOf ops (bays_below (n + 1)) (joined x y)
  faults_more n x y a b = faults_same (λ o. bays_below n o || of_bay n o) (bays_below (n + 1)) (joined x y) (λ p h. here (at ops p).bay (cases_order (at ops p).bay n)) (faults_either (bays_below n) (of_bay n) x y a b)
    where
      here : (b : ℕ) → ((b ≡ n) ⊎ ((b < n) ⊎ (n < b))) → (ltb b n || eqb b n) ≡ ltb b (n + 1)
      here b (inl e) = or_right (ltb b n) (eqb b n) (eq-eqb b n e) ∙ sym (lt-ltb b (n + 1) (omega arith))
      here b (inr (inl l)) = or_left (ltb b n) (eqb b n) (lt-ltb b n l) ∙ sym (lt-ltb b (n + 1) (omega arith))
      here b (inr (inr l)) = or_from (ltb b n) (eqb b n) (le-ltb b n (omega arith)) (ne_eqb b n (λ e. omega arith)) ∙ sym (le-ltb b (n + 1) (omega arith))

  -- and in the end those of all
  pub faults_all : (x : Faults) → InCrane ops → FaultsOf ops (bays_below crane_bays) x → FaultsOf ops whole x
  faults_all x inside a = faults_same (bays_below crane_bays) whole x (λ p h. lt-ltb (at ops p).bay crane_bays (inside p h)) a
