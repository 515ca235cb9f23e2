-- What holds at every point of a life, as the induction over its calls needs it. Assumes nothing.
use Rattle.std.proofs.Common.{◌≡◌, ℕ, ◌+◌, ◌<◌, ◌≤◌, Bool, true, false, cond, not, ◌&&◌, ◌||◌, eqb, List, [], ◌∷◌, map, length, filter, sym, refl, ap, ◌∙◌, subst, ⊎_elim, arith, length-append}
use Rattle.std.proofs.lemmas.List.Elements.{filter_agree}
use Rattle.std.proofs.lemmas.List.Filters.{length-filter_both}
use Rattle.std.proofs.lemmas.List.{length-map}
use Rattle.std.proofs.lemmas.Bool.Decides.{nat_tests}
use Rattle.std.proofs.lemmas.Bool.{true≢false, both_ways, eqb-true, cases_lt, ne_eqb, and_right, and_parts, or_from}
use Rattle.operations.specs.declared.row.Sort.{Sort}
use Rattle.lives.specs.Calls.{Event, Begun, Ended, Lost, Closed, Reopened, Surveyed, Refused}
use Rattle.lives.specs.Words.{Start, start, on, of, same_sort, has_ticket, begun, begins, ends, losses, settled, waiting, next_tick, recording, operation, shown}
use Rattle.lives.specs.Life.{SurveyRuleOf, Due, Life}
use Rattle.lives.proofs.Filters.{not_or, kept_twice, kept_fewer, kept_and_fewer}

pub record Lawful {V : Type 0} (first : ℕ) (es : List (Event V)) : Type 0 where
  -- nothing has a tick that is still to come
  pub early : (c t : ℕ) → next_tick first es ≤ t → filter (of c t) (begun es) ≡ []
  pub fresh : (c t : ℕ) → next_tick first es ≤ t → settled es c t ≡ false
  pub one_begin : (c t : ℕ) → length (filter (of c t) (begun es)) ≤ 1
  pub one_waits : (c : ℕ) → length (filter (on c) (waiting es)) ≤ 1
  pub balance : begins es ≡ ends es + losses es + length (waiting es)
  pub each : length (shown first es) ≡ ends es
  -- nothing waits on a closed log
  pub quiet : recording es ≡ false → length (waiting es) ≡ 0

-- what an accepted answer tells
module _ {V : Type 0} (rule : SurveyRuleOf V) (first entries : ℕ) (es : List (Event V)) where
  pub begun_due : (k : Sort) (c b t : ℕ) → Due rule first entries es (Begun k c b t) → (t ≡ next_tick first es) × (length (filter (on c) (waiting es)) ≡ 0) × (c ≤ 63)
  begun_due k c b t e = let f = e.0 in grind (arith, nat_tests)

  pub ended_due : (k : Sort) (c t : ℕ) (v : V) → Due rule first entries es (Ended k c t v) → 0 < length (filter (has_ticket k c t) (waiting es))
  ended_due k c t v e = grind (arith, nat_tests)

  pub lost_due : (k : Sort) (c t : ℕ) → Due rule first entries es (Lost k c t) → 0 < length (filter (has_ticket k c t) (waiting es))
  lost_due k c t e = grind (arith, nat_tests)

  pub closed_due : Due rule first entries es Closed → length (waiting es) ≡ 0
  closed_due e = grind (arith, nat_tests)

-- a begin is accepted
module _ {V : Type 0} (first : ℕ) (es : List (Event V)) (h : Lawful first es) (k : Sort) (c b t : ℕ)
    (at_next : t ≡ next_tick first es) (idle : length (filter (on c) (waiting es)) ≡ 0) where
  pub begun_waiting : waiting (Begun k c b t ∷ es) ≡ start k c b t ∷ waiting es
  begun_waiting =
      let f = h.fresh c t (omega arith) in
      ap (λ x. cond (not x) (start k c b t ∷ waiting es) (waiting es)) f

  begun_one : (d n : ℕ) (x : Bool) → of d n (start k c b t) ≡ x → length (cond x (start k c b t ∷ filter (of d n) (begun es)) (filter (of d n) (begun es))) ≤ 1
  begun_one d n true e =
      let q = and_parts (eqb d c) (eqb n t) e in
      omega (arith, ap length (h.early d n (omega (arith, eqb-true n t q.1))))
  begun_one d n false e = h.one_begin d n

  begun_waits : (d : ℕ) (x : Bool) → eqb d c ≡ x → length (cond x (start k c b t ∷ filter (on d) (waiting es)) (filter (on d) (waiting es))) ≤ 1
  begun_waits d true e = omega (arith, ap (λ y. length (filter (on y) (waiting es))) (eqb-true d c e))
  begun_waits d false e = h.one_waits d

  begun_lawful : recording es ≡ true → Lawful first (Begun k c b t ∷ es)
  begun_lawful r = record {
    early = λ d n l.
        let f : of d n (start k c b t) ≡ false = and_right (eqb d c) (eqb n t) (ne_eqb n t (λ e. omega arith)) in
        ap (λ x. cond x (start k c b t ∷ filter (of d n) (begun es)) (filter (of d n) (begun es))) f ∙ h.early d n (omega arith);
    fresh = λ d n l. h.fresh d n (omega arith);
    one_begin = λ d n. begun_one d n (of d n (start k c b t)) refl;
    one_waits = λ d. subst (λ ws. length (filter (on d) ws) ≤ 1) (sym begun_waiting) (begun_waits d (eqb d c) refl);
    balance = omega (arith, h.balance, ap length begun_waiting);
    each = h.each;
    quiet = λ f. absurd (both_ways (recording es) f r);
  }

-- an end or a loss is accepted
module _ {V : Type 0} (first : ℕ) (es : List (Event V)) (h : Lawful first es) (k : Sort) (c t : ℕ)
    (waits : 0 < length (filter (has_ticket k c t) (waiting es))) where
  pub of_one : length (filter (of c t) (waiting es)) ≡ 1
  of_one =
      omega (arith, waits, kept_and_fewer (of c t) (λ b. same_sort k b.sort) (waiting es), kept_and_fewer (on c) (λ b. eqb t b.tick) (waiting es), h.one_waits c)

  pub begin_one : length (filter (of c t) (begun es)) ≡ 1
  begin_one = omega (arith, of_one, kept_fewer (of c t) (λ b. not (settled es b.cabinet b.tick)) (begun es), h.one_begin c t)

  past : t < next_tick first es
  past = ⊎_elim (λ l. l) (λ l. absurd (omega (arith, begin_one, ap length (h.early c t l)))) (cases_lt t (next_tick first es))

  -- what waits after it
  abbrev pub rest : List Start
  rest = filter (λ b. not (of c t b)) (waiting es)

  pub settled_rest : filter (λ b. not (of c t b || settled es b.cabinet b.tick)) (begun es) ≡ rest
  settled_rest =
      filter_agree (λ b. not (of c t b || settled es b.cabinet b.tick)) (λ b. not (of c t b) && not (settled es b.cabinet b.tick)) (λ b. not_or (of c t b) (settled es b.cabinet b.tick)) (begun es)
      ∙ kept_twice (λ b. not (of c t b)) (λ b. not (settled es b.cabinet b.tick)) (begun es)

  pub rest_less : length (waiting es) ≡ length rest + 1
  rest_less = omega (arith, of_one, length-filter_both (of c t) (λ b. not (of c t b)) (λ b. refl) (waiting es))

  settled_fresh : (d n : ℕ) → next_tick first es ≤ n → ((eqb c d && eqb t n) || settled es d n) ≡ false
  settled_fresh d n l = or_from (eqb c d && eqb t n) (settled es d n) (and_right (eqb c d) (eqb t n) (ne_eqb t n (λ e. omega (arith, past)))) (h.fresh d n l)

  settled_waits : (d : ℕ) → length (filter (on d) (filter (λ b. not (of c t b || settled es b.cabinet b.tick)) (begun es))) ≤ 1
  settled_waits d = subst (λ ws. length (filter (on d) ws) ≤ 1) (sym settled_rest) (omega (arith, kept_fewer (on d) (λ b. not (of c t b)) (waiting es), h.one_waits d))

  ended_lawful : (v : V) → recording es ≡ true → Lawful first (Ended k c t v ∷ es)
  ended_lawful v r = record {
    early = λ d n l. h.early d n (omega arith);
    fresh = λ d n l. settled_fresh d n (omega arith);
    one_begin = h.one_begin;
    one_waits = settled_waits;
    balance = omega (arith, h.balance, rest_less, ap length settled_rest);
    each = length-append (shown first es) (map (operation v (next_tick first es)) (filter (of c t) (begun es))) ∙ omega (arith, h.each, begin_one, length-map (filter (of c t) (begun es)) (operation v (next_tick first es)));
    quiet = λ f. absurd (both_ways (recording es) f r);
  }

  lost_lawful : recording es ≡ true → Lawful first (Lost k c t ∷ es)
  lost_lawful r = record {
    early = h.early;
    fresh = settled_fresh;
    one_begin = h.one_begin;
    one_waits = settled_waits;
    balance = omega (arith, h.balance, rest_less, ap length settled_rest);
    each = h.each;
    quiet = λ f. absurd (both_ways (recording es) f r);
  }

pub lawful : {V : Type 0} (rule : SurveyRuleOf V) (first entries : ℕ) (es : List (Event V)) → Life rule first entries es → Lawful first es
lawful rule first entries [] l = record { early = λ c t _. refl; fresh = λ c t _. refl; one_begin = λ c t. omega arith; one_waits = λ c. omega arith; balance = refl; each = refl; quiet = λ _. refl }
lawful rule first entries (Begun k c b t ∷ es) l =
    let d = begun_due rule first entries es k c b t l.2 in
    begun_lawful first es (lawful rule first entries es l.0) k c b t d.0 d.1 l.1
lawful rule first entries (Ended k c t v ∷ es) l = ended_lawful first es (lawful rule first entries es l.0) k c t (ended_due rule first entries es k c t v l.2) v l.1
lawful rule first entries (Lost k c t ∷ es) l = lost_lawful first es (lawful rule first entries es l.0) k c t (lost_due rule first entries es k c t l.2) l.1
lawful rule first entries (Closed ∷ es) l =
    let h = lawful rule first entries es l.0 in
    record { early = h.early; fresh = h.fresh; one_begin = h.one_begin; one_waits = h.one_waits; balance = h.balance; each = h.each; quiet = λ _. closed_due rule first entries es l.2 }
lawful rule first entries (Reopened ∷ es) l =
    let h = lawful rule first entries es l.0 in
    record { early = h.early; fresh = h.fresh; one_begin = h.one_begin; one_waits = h.one_waits; balance = h.balance; each = h.each; quiet = λ e. absurd (true≢false e) }
lawful rule first entries (Surveyed _ _ _ ∷ es) l =
    let h = lawful rule first entries es l.0 in
    record { early = h.early; fresh = h.fresh; one_begin = h.one_begin; one_waits = h.one_waits; balance = h.balance; each = h.each; quiet = h.quiet }
lawful rule first entries (Refused _ _ ∷ es) l =
    let h = lawful rule first entries es l.0 in
    record { early = h.early; fresh = h.fresh; one_begin = h.one_begin; one_waits = h.one_waits; balance = h.balance; each = h.each; quiet = h.quiet }
