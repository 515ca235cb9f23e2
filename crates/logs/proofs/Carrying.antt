-- Each call carries on the lives that led to its storage. Assumes nothing.
use Rattle.std.proofs.Common.{◌≡◌, ℕ, ◌<◌, ◌≤◌, Bool, true, false, cond, not, ◌&&◌, eqb, ltb, ◌≢◌, List, [], ◌∷◌, ◌++◌, map, length, get_or, set, Some, None, Ok, Err, filter, Result, sym, refl, ap, ◌∙◌, subst, ⊎_elim, arith, get_or-set_other, get_or-set_same}
use lib.ListN.{get_or-eq_default}
use Rattle.std.proofs.lemmas.List.Elements.{filter_agree}
use Rattle.std.proofs.lemmas.List.{nil_from_length}
use Rattle.std.proofs.lemmas.Bool.{eqb-true, eqb-false, eq-eqb, cases_lt}
use Rattle.std.proofs.lemmas.Bool.Decides.{nat_tests}
use Rattle.operations.specs.Checks.{first_failed}
use Rattle.operations.specs.declared.row.Sort.{Sort}
use Rattle.operations.specs.declared.row.Sort.TheVariants.{Read, Write}
use Rattle.operations.proofs.Checks.{passed_as, failed_as}
use Rattle.lives.specs.Calls.{Call, Begin, End, Lose, Event, Begun, Ended, Lost, Refused}
use Rattle.lives.specs.Life.{SurveyRuleOf, told, allowed, Due, Life, numbers}
use Rattle.lives.specs.Refusals.{log_refusal}
use Rattle.lives.specs.Rules.{tally, begin_checks, ticket_checks}
use Rattle.lives.specs.Words.{Start, start, on, of, same_sort, has_ticket, begun, ends, settled, waiting, some, next_tick, recording, operation, shown}
use Rattle.lives.specs.declared.refusal.LogRefusal.{LogRefusal}
use Rattle.lives.proofs.Filters.{and_comm, kept_twice, kept_swap, kept_whole}
use Rattle.lives.proofs.Lawful.{Lawful, lawful, begun_due, begun_waiting, of_one, begin_one, rest, rest_less, settled_rest}
use Rattle.logs.specs.declared.cabinet.Cabinet.{Cabinet}
use Rattle.logs.specs.declared.cabinet.Cabinet.TheVariants.{Idle, Reading, Writing}
use Rattle.logs.specs.Cabinets.{is_idle, occupied, holds, bay_of}
use Rattle.logs.specs.States.{State, opened_at}
use Rattle.logs.specs.Steps.{cabinet_at, open_refusal, begin_refusal, begun as begun-state, ended as ended-state, lost as lost-state, row, Begins, Ends, Loses}
use Rattle.logs.specs.Stands.{holding, Leads, CarriesBy, begin_event, end_event, lose_event}
use Rattle.logs.proofs.Holding.{idle_replicate, held_known}

-- cabinets and the begins that wait

idle_holding : (c : ℕ) (x : Cabinet) → is_idle x ≡ not (ltb 0 (length (holding c x)))
idle_holding c Idle = refl
idle_holding c (Reading b t) = refl
idle_holding c (Writing b t) = refl

holding_occupied : (c : ℕ) (k : Sort) (b t : ℕ) → holding c (occupied k b t) ≡ start k c b t ∷ []
holding_occupied c Read b t = refl
holding_occupied c Write b t = refl

-- the test of a ticket, on what its cabinet holds
abbrev at : Sort → ℕ → Start → Bool
at k t b = eqb t b.tick && same_sort k b.sort

holds_some : (c : ℕ) (x : Cabinet) (k : Sort) (t : ℕ) → holds k t x ≡ ltb 0 (length (filter (at k t) (holding c x)))
holds_some c Idle k t = refl
holds_some c (Reading b n) Read t = grind (arith, nat_tests)
holds_some c (Reading b n) Write t = grind (arith, nat_tests)
holds_some c (Writing b n) Read t = grind (arith, nat_tests)
holds_some c (Writing b n) Write t = grind (arith, nat_tests)

ticket_parts : (x y z : Bool) → ((x && y) && z) ≡ ((y && z) && x)
ticket_parts true y z = sym (and_comm (y && z) true)
ticket_parts false y z = and_comm false (y && z)

kept_ticket : (k : Sort) (c t : ℕ) (ws : List Start) → filter (has_ticket k c t) ws ≡ filter (at k t) (filter (on c) ws)
kept_ticket k c t ws = filter_agree (has_ticket k c t) (λ b. at k t b && on c b) (λ b. ticket_parts (on c b) (eqb t b.tick) (same_sort k b.sort)) ws ∙ kept_twice (at k t) (on c) ws

kept_of : (c t : ℕ) (ws : List Start) → filter (of c t) ws ≡ filter (λ b. eqb t b.tick) (filter (on c) ws)
kept_of c t ws = filter_agree (of c t) (λ b. eqb t b.tick && on c b) (λ b. and_comm (on c b) (eqb t b.tick)) ws ∙ kept_twice (λ b. eqb t b.tick) (on c) ws

-- what another cabinet holds is not of this one
other_holding : (c d t : ℕ) (x : Cabinet) → eqb c d ≡ false → filter (λ b. not (of c t b)) (holding d x) ≡ holding d x
other_holding c d t Idle e = refl
other_holding c d t (Reading b n) e = ap (λ z. cond (not (z && eqb t n)) (start Read d b n ∷ []) []) e
other_holding c d t (Writing b n) e = ap (λ z. cond (not (z && eqb t n)) (start Write d b n ∷ []) []) e

-- the same checks pass and fail alike, as they are told

told_passed : (cs ds : List (Bool × LogRefusal)) → cs ≡ ds → first_failed cs ≡ None → first_failed (told ds) ≡ None
told_passed cs ds e h = passed_as log_refusal ds (ap first_failed (sym e) ∙ h)

told_failed : (cs ds : List (Bool × LogRefusal)) (x : LogRefusal) → cs ≡ ds → first_failed cs ≡ Some x → first_failed (told ds) ≡ Some (log_refusal x)
told_failed cs ds x e h = failed_as log_refusal ds x (ap first_failed (sym e) ∙ h)

module _ {V : Type 0} (rule : SurveyRuleOf V) (first entries : ℕ) (es : List (Event V)) (s : State V) (led : Leads rule first entries es s) where
  law : Lawful first es
  law = lawful rule first entries es led.life

  -- a call that changes nothing
  pub same_leads : (e : Event V) → Life rule first entries (e ∷ es) → begun (e ∷ es) ≡ begun es → waiting (e ∷ es) ≡ waiting es → next_tick first (e ∷ es) ≡ next_tick first es → shown first (e ∷ es) ≡ shown first es → Leads rule first entries (e ∷ es) s
  same_leads e life b w n sh = record {
    life = life;
    storage = led.storage;
    next = led.next ∙ sym n;
    waits = led.waits ∙ sym (ap length w);
    cabinets = λ c. ap (filter (on c)) w ∙ led.cabinets c;
    ended = led.ended ∙ sym sh;
  }

  refused_leads : (x : Call V) (e : LogRefusal) → allowed (recording es) x ≡ true → Due rule first entries es (Refused x (log_refusal e)) → Leads rule first entries (Refused x (log_refusal e) ∷ es) s
  refused_leads x e a due = same_leads (Refused x (log_refusal e)) (led.life, a, due) refl refl refl refl

  -- the storage and the words of the life have the same checks
  begin_same : (c b : ℕ) → begin_checks (tally (length s.ended) s.waiting s.next s.entries) c b (is_idle (cabinet_at s c)) ≡ begin_checks (numbers first entries es) c b (not (some (on c) (waiting es)))
  begin_same c b =
      let idle : is_idle (cabinet_at s c) ≡ not (some (on c) (waiting es)) = idle_holding c (cabinet_at s c) ∙ sym (ap (λ l. not (ltb 0 (length l))) (led.cabinets c)) in
      let many : length s.ended ≡ ends es = ap length led.ended ∙ law.each in
      λ i. begin_checks (tally (many i) (led.waits i) (led.next i) (led.storage i)) c b (idle i)

  ticket_same : (k : Sort) (c t : ℕ) → ticket_checks t (holds k t (cabinet_at s c)) ≡ ticket_checks t (some (has_ticket k c t) (waiting es))
  ticket_same k c t = ap (ticket_checks t) (holds_some c (cabinet_at s c) k t ∙ sym (ap (λ l. ltb 0 (length l)) (kept_ticket k c t (waiting es) ∙ ap (filter (at k t)) (led.cabinets c))))

  module _ (recorded : recording es ≡ true) (wide : length s.cabinets ≡ 64) where
    -- an accepted begin
    begun_cabinets : (k : Sort) (c b t : ℕ) → c ≤ 63 → t ≡ s.next → length (filter (on c) (waiting es)) ≡ 0 → (d : ℕ) (x : Bool) → eqb d c ≡ x →
        cond x (start k c b t ∷ filter (on d) (waiting es)) (filter (on d) (waiting es)) ≡ holding d (get_or (set s.cabinets c (occupied k b s.next)) d Idle)
    begun_cabinets k c b t l n z d true e =
        let q = eqb-true d c e in
        let none : filter (on d) (waiting es) ≡ [] = nil_from_length (filter (on d) (waiting es)) (ap (λ y. length (filter (on y) (waiting es))) q ∙ z) in
        let w : c < length s.cabinets = omega arith in
        let g : get_or (set s.cabinets c (occupied k b s.next)) d Idle ≡ occupied k b s.next = ap (λ y. get_or (set s.cabinets c (occupied k b s.next)) y Idle) q ∙ get_or-set_same s.cabinets c (occupied k b s.next) Idle w in
        ap (λ l. start k c b t ∷ l) none ∙ ((λ i. start k (sym q i) b (n i) ∷ []) ∙ (sym (holding_occupied d k b s.next) ∙ ap (holding d) (sym g)))
    begun_cabinets k c b t l n z d false e =
        let ne : d ≢ c = eqb-false d c e in
        led.cabinets d ∙ ap (holding d) (sym (get_or-set_other s.cabinets c d (occupied k b s.next) Idle ne))

    begun_leads : (k : Sort) (c b t : ℕ) → begin_refusal s c b ≡ None → t ≡ s.next → Leads rule first entries (Begun k c b t ∷ es) (begun-state s k c b)
    begun_leads k c b t passed at_next =
        let due : Due rule first entries es (Begun k c b t) = (told_passed (begin_checks (tally (length s.ended) s.waiting s.next s.entries) c b (is_idle (cabinet_at s c))) (begin_checks (numbers first entries es) c b (not (some (on c) (waiting es)))) (begin_same c b) passed, at_next ∙ led.next) in
        let q = begun_due rule first entries es k c b t due in
        let w = begun_waiting first es law k c b t q.0 q.1 in
        record {
          life = (led.life, recorded, due);
          storage = led.storage;
          next = omega (arith, led.next);
          waits = omega (arith, led.waits, ap length w);
          cabinets = λ d. ap (filter (on d)) w ∙ begun_cabinets k c b t q.2 at_next q.1 d (eqb d c) refl;
          ended = led.ended;
        }

    -- an accepted end or loss
    module _ (k : Sort) (c t : ℕ) (held : holds k t (cabinet_at s c) ≡ true) where
      abbrev bay : ℕ
      bay = bay_of (cabinet_at s c)

      on_held : filter (on c) (waiting es) ≡ start k c bay t ∷ []
      on_held = led.cabinets c ∙ (ap (holding c) (held_known (cabinet_at s c) k t held) ∙ holding_occupied c k bay t)

      counted : 0 < length (filter (has_ticket k c t) (waiting es))
      counted =
          let y : eqb t t ≡ true = eq-eqb t t refl in
          let e = ap length (kept_ticket k c t (waiting es) ∙ ap (filter (at k t)) (led.cabinets c)) in
          let f = sym (holds_some c (cabinet_at s c) k t) ∙ held in
          grind (arith, nat_tests)

      known : c < length s.cabinets
      known = ⊎_elim (λ l. l) (λ l. absurd (let e = ap length (sym on_held ∙ (led.cabinets c ∙ ap (holding c) (get_or-eq_default s.cabinets Idle l))) in omega arith)) (cases_lt c (length s.cabinets))

      -- the begin that it belongs to
      belongs : filter (of c t) (begun es) ≡ start k c bay t ∷ []
      belongs =
          let u : Start → Bool = λ x. not (settled es x.cabinet x.tick) in
          let m = kept_swap (of c t) u (begun es) in
          let a = of_one first es law k c t counted in
          let n = begin_one first es law k c t counted in
          let y : eqb t t ≡ true = eq-eqb t t refl in
          sym (kept_whole u (filter (of c t) (begun es)) (omega (arith, ap length m)))
          ∙ (sym m ∙ (kept_of c t (waiting es) ∙ (ap (filter (λ x. eqb t x.tick)) on_held ∙ ap (λ z. cond z (start k c bay t ∷ []) []) y)))

      rest_cabinets : (d : ℕ) (x : Bool) → eqb c d ≡ x → filter (on d) (rest first es law k c t counted) ≡ holding d (get_or (set s.cabinets c Idle) d Idle)
      rest_cabinets d true e =
          let q : d ≡ c = sym (eqb-true c d e) in
          let y : eqb t t ≡ true = eq-eqb t t refl in
          let z : eqb c c ≡ true = eq-eqb c c refl in
          let one : filter (λ x. not (of c t x)) (start k c bay t ∷ []) ≡ [] = λ i. cond (not (z i && y i)) (start k c bay t ∷ []) [] in
          let g : get_or (set s.cabinets c Idle) d Idle ≡ Idle = ap (λ j. get_or (set s.cabinets c Idle) j Idle) q ∙ get_or-set_same s.cabinets c Idle Idle known in
          kept_swap (on d) (λ x. not (of c t x)) (waiting es)
          ∙ (ap (λ j. filter (λ x. not (of c t x)) (filter (on j) (waiting es))) q ∙ (ap (filter (λ x. not (of c t x))) on_held ∙ (one ∙ ap (holding d) (sym g))))
      rest_cabinets d false e =
          let ne : d ≢ c = λ q. eqb-false c d e (sym q) in
          kept_swap (on d) (λ x. not (of c t x)) (waiting es)
          ∙ (ap (filter (λ x. not (of c t x))) (led.cabinets d) ∙ (other_holding c d t (cabinet_at s d) e ∙ ap (holding d) (sym (get_or-set_other s.cabinets c d Idle Idle ne))))

      ended_leads : (v : V) → Due rule first entries es (Ended k c t v) → Leads rule first entries (Ended k c t v ∷ es) (ended-state s k c t v)
      ended_leads v due =
          let w = settled_rest first es law k c t counted in
          record {
            life = (led.life, recorded, due);
            storage = led.storage;
            next = omega (arith, led.next);
            waits = omega (arith, led.waits, rest_less first es law k c t counted, ap length w);
            cabinets = λ d. ap (filter (on d)) w ∙ rest_cabinets d (eqb c d) refl;
            ended = (λ i. led.ended i ++ (row k bay c v t (led.next i) ∷ [])) ∙ ap (λ l. shown first es ++ map (operation v (next_tick first es)) l) (sym belongs);
          }

      lost_leads : Due rule first entries es (Lost k c t) → Leads rule first entries (Lost k c t ∷ es) (lost-state s c)
      lost_leads due =
          let w = settled_rest first es law k c t counted in
          record {
            life = (led.life, recorded, due);
            storage = led.storage;
            next = led.next;
            waits = omega (arith, led.waits, rest_less first es law k c t counted, ap length w);
            cabinets = λ d. ap (filter (on d)) w ∙ rest_cabinets d (eqb c d) refl;
            ended = led.ended;
          }

-- whether a ticket's check passed
ticket_passed : (h : Bool) (t : ℕ) → first_failed (ticket_checks t h) ≡ None → h ≡ true
ticket_passed h t e = grind (arith, nat_tests)

-- what the contracts of the calls say
module _ {V : Type 0} (rule : SurveyRuleOf V) (s t : State V) where
  module _ (wide : length s.cabinets ≡ 64) where
    pub begin_carries : {T : Type 0} (ticket : ℕ → T) (tick : T → ℕ) → ((n : ℕ) → tick (ticket n) ≡ n) → (k : Sort) (c b : ℕ) (r : Result T LogRefusal) → Begins ticket s t k c b r → CarriesBy rule true s (begin_event tick k c b r) t
    begin_carries ticket tick same k c b (Ok x) is first entries es led rec =
        subst (λ y. Leads rule first entries (Begun k c b (tick x) ∷ es) y) (sym is.2) (begun_leads rule first entries es s led rec wide k c b (tick x) is.0 (ap tick is.1 ∙ same s.next))
    begin_carries ticket tick same k c b (Err e) is first entries es led rec =
        subst (λ y. Leads rule first entries (Refused (Begin k c b) (log_refusal e) ∷ es) y) (sym is.1)
        (refused_leads rule first entries es s led (Begin k c b) e rec (told_failed _ _ e (begin_same rule first entries es s led c b) is.0))

    pub end_carries : {E : Type 0} (why : E → LogRefusal) (k : Sort) (c n : ℕ) (v : V) (r : Result (Unit {0}) E) → Ends why s t k c n v r → CarriesBy rule true s (end_event why k c n v r) t
    end_carries why k c n v (Ok _) is first entries es led rec =
        subst (λ y. Leads rule first entries (Ended k c n v ∷ es) y) (sym is.1)
        (ended_leads rule first entries es s led rec wide k c n (ticket_passed (holds k n (cabinet_at s c)) n is.0) v (told_passed _ _ (ticket_same rule first entries es s led k c n) is.0))
    end_carries why k c n v (Err e) is first entries es led rec =
        subst (λ y. Leads rule first entries (Refused (End k c n v) (log_refusal (why e)) ∷ es) y) (sym is.1)
        (refused_leads rule first entries es s led (End k c n v) (why e) rec (told_failed _ _ (why e) (ticket_same rule first entries es s led k c n) is.0))

    pub lose_carries : (k : Sort) (c n : ℕ) (r : Result (Unit {0}) LogRefusal) → Loses s t k c n r → CarriesBy rule true s (lose_event k c n r) t
    lose_carries k c n (Ok _) is first entries es led rec =
        subst (λ y. Leads rule first entries (Lost k c n ∷ es) y) (sym is.1)
        (lost_leads rule first entries es s led rec wide k c n (ticket_passed (holds k n (cabinet_at s c)) n is.0) (told_passed _ _ (ticket_same rule first entries es s led k c n) is.0))
    lose_carries k c n (Err e) is first entries es led rec =
        subst (λ y. Leads rule first entries (Refused (Lose k c n) (log_refusal e) ∷ es) y) (sym is.1)
        (refused_leads rule first entries es s led (Lose k c n) e rec (told_failed _ _ e (ticket_same rule first entries es s led k c n) is.0))

module _ {V : Type 0} (rule : SurveyRuleOf V) (s : State V) where
  -- a storage that was just opened
  pub opened_leads : (first entries : ℕ) → open_refusal first ≡ None → s ≡ opened_at first entries → Leads rule first entries [] s
  opened_leads first entries passed is =
      subst (λ x. Leads rule first entries [] x) (sym is)
      (record { life = passed; storage = refl; next = omega arith; waits = refl; cabinets = λ c. ap (holding c) (sym (idle_replicate 64 c)); ended = refl })
