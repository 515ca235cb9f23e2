-- The law over all lives. Assumes nothing.
use Rattle.std.proofs.Common.{◌≡◌, ℕ, ◌<◌, ◌≤◌, Bool, true, false, cond, not, ◌&&◌, ◌||◌, eqb, List, [], ◌∷◌, ◌++◌, map, length, get_or, Some, None, filter, sym, refl, ap, ◌∙◌, subst, inl, inr, ⊎_elim, arith}
use Rattle.std.specs.List.{AllByRecursion as All}
use Rattle.std.proofs.ByRecursion.{kept_by_passes}
use Rattle.std.proofs.lemmas.List.Elements.{filter_agree}
use Rattle.std.proofs.lemmas.List.{get_or_append_left, get_or_push}
use Rattle.std.proofs.lemmas.Bool.Decides.{nat_tests}
use Rattle.std.proofs.lemmas.Bool.{false≢true, eqb-true, cases_lt, and_parts, or_cases}
use Rattle.operations.specs.Refusals.{refusal}
use Rattle.operations.specs.declared.refusal.Layer.TheVariants as layer
use Rattle.operations.specs.declared.row.Row.{Row}
use Rattle.operations.specs.declared.row.Sort.{Sort}
use Rattle.operations.specs.declared.row.Sort.TheVariants.{Read, Write}
use Rattle.lives.specs.Calls.{Event, Begun, Ended, Lost, Closed, Reopened, Surveyed, Refused}
use Rattle.lives.specs.Words.{Start, start, of, same_sort, has_ticket, begun, ends, settled, waiting, next_tick, recording, operation, shown}
use Rattle.lives.specs.Life.{SurveyRuleOf, Due, Life, ToldByClose, Belongs, EndAt, Law, LivesLawful}
use Rattle.lives.proofs.Filters.{and_comm, kept_never, kept_twice, kept_fewer}
use Rattle.lives.proofs.Lawful.{Lawful, lawful, begin_one, ended_due, lost_due, closed_due}

same_sort_is : (k j : Sort) → same_sort k j ≡ true → j ≡ k
same_sort_is Read Read e = refl
same_sort_is Read Write e = absurd (false≢true e)
same_sort_is Write Read e = absurd (false≢true e)
same_sort_is Write Write e = refl

kept_some : (z : Bool) (y : Start) → 0 < length (cond z (y ∷ []) []) → z ≡ true
kept_some true y h = refl
kept_some false y h = absurd (omega arith)

-- where just one begin has the cabinet and tick, and one has the ticket, it is that one
one_of : (k : Sort) (c t : ℕ) (bs xs : List Start) → filter (of c t) bs ≡ xs → length xs ≡ 1 → 0 < length (filter (has_ticket k c t) bs) → (b : ℕ) × (filter (of c t) bs ≡ start k c b t ∷ [])
one_of k c t bs [] e n w = absurd (omega arith)
one_of k c t bs (x ∷ (y ∷ ys)) e n w = absurd (omega arith)
one_of k c t bs (x ∷ []) e n w =
    let P : List Start → Type 0 = λ l. All (λ z. of c t z ≡ true) l in
    let q = and_parts (eqb c x.cabinet) (eqb t x.tick) (subst P e (kept_by_passes (of c t) bs)).0 in
    let S : Start → Bool = λ z. same_sort k z.sort in
    let m : filter (has_ticket k c t) bs ≡ filter S (x ∷ []) = filter_agree (has_ticket k c t) (λ z. S z && of c t z) (λ z. and_comm (of c t z) (S z)) bs ∙ (kept_twice S (of c t) bs ∙ ap (filter S) e) in
    let u : 0 < length (cond (S x) (x ∷ []) []) = subst (λ l. 0 < length l) m w in
    (x.bay, e ∙ (λ i. start (same_sort_is k x.sort (kept_some (S x) x u) i) (sym (eqb-true c x.cabinet q.0) i) x.bay (sym (eqb-true t x.tick q.1) i) ∷ []))

-- each place among the ends is that of an end
later_end : {V : Type 0} (e : Event V) (es : List (Event V)) (place : ℕ) → EndAt es place → EndAt (e ∷ es) place
later_end e es place x = record { later = e ∷ x.later; sooner = x.sooner; sort = x.sort; cabinet = x.cabinet; tick = x.tick; value = x.value; is = ap (λ l. e ∷ l) x.is; at = x.at }

end_at : {V : Type 0} (es : List (Event V)) (place : ℕ) → place < ends es → EndAt es place
end_at [] place l = absurd (omega arith)
end_at (Begun k c b t ∷ es) place l = later_end (Begun k c b t) es place (end_at es place l)
end_at (Ended k c t v ∷ es) place l =
    ⊎_elim (λ lt. later_end (Ended k c t v) es place (end_at es place lt))
    (λ le. record { later = []; sooner = es; sort = k; cabinet = c; tick = t; value = v; is = refl; at = omega arith })
    (cases_lt place (ends es))
end_at (Lost k c t ∷ es) place l = later_end (Lost k c t) es place (end_at es place l)
end_at (Closed ∷ es) place l = later_end Closed es place (end_at es place l)
end_at (Reopened ∷ es) place l = later_end Reopened es place (end_at es place l)
end_at (Surveyed bays limit report ∷ es) place l = later_end (Surveyed bays limit report) es place (end_at es place l)
end_at (Refused call e ∷ es) place l = later_end (Refused call e) es place (end_at es place l)

module _ {V : Type 0} (rule : SurveyRuleOf V) (first entries : ℕ) where
  -- a life up to a point is a life
  sooner_life : (later sooner : List (Event V)) → Life rule first entries (later ++ sooner) → Life rule first entries sooner
  sooner_life [] sooner l = l
  sooner_life (e ∷ later) sooner l = sooner_life later sooner l.0

  point : (es later sooner : List (Event V)) → Life rule first entries es → es ≡ later ++ sooner → Life rule first entries sooner
  point es later sooner l p = sooner_life later sooner (subst (λ x. Life rule first entries x) p l)

  -- the begin that an accepted end or loss belongs to
  belongs_to : (es : List (Event V)) → Life rule first entries es → (k : Sort) (c t : ℕ) → 0 < length (filter (has_ticket k c t) (waiting es)) → Belongs es k c t
  belongs_to es l k c t w =
      let found = one_of k c t (begun es) (filter (of c t) (begun es)) refl (begin_one first es (lawful rule first entries es l) k c t w) (omega (arith, w, kept_fewer (has_ticket k c t) (λ b. not (settled es b.cabinet b.tick)) (begun es))) in
      record { bay = found.0; only = found.1 }

  ends_more : (later es : List (Event V)) → ends es ≤ ends (later ++ es)
  ends_more [] es = omega arith
  ends_more (Begun _ _ _ _ ∷ later) es = ends_more later es
  ends_more (Ended _ _ _ _ ∷ later) es = omega (arith, ends_more later es)
  ends_more (Lost _ _ _ ∷ later) es = ends_more later es
  ends_more (Closed ∷ later) es = ends_more later es
  ends_more (Reopened ∷ later) es = ends_more later es
  ends_more (Surveyed _ _ _ ∷ later) es = ends_more later es
  ends_more (Refused _ _ ∷ later) es = ends_more later es

  -- later calls leave what is shown at its place
  shown_stays : (later es : List (Event V)) (i : ℕ) (d : Row V) → Life rule first entries (later ++ es) → i < ends es → get_or (shown first (later ++ es)) i d ≡ get_or (shown first es) i d
  shown_stays [] es i d l h = refl
  shown_stays (Begun _ _ _ _ ∷ later) es i d l h = shown_stays later es i d l.0 h
  shown_stays (Ended k c t v ∷ later) es i d l h =
      let w : i < length (shown first (later ++ es)) = omega (arith, (lawful rule first entries (later ++ es) l.0).each, ends_more later es) in
      get_or_append_left (shown first (later ++ es)) (map (operation v (next_tick first (later ++ es))) (filter (of c t) (begun (later ++ es)))) d i w ∙ shown_stays later es i d l.0 h
  shown_stays (Lost _ _ _ ∷ later) es i d l h = shown_stays later es i d l.0 h
  shown_stays (Closed ∷ later) es i d l h = shown_stays later es i d l.0 h
  shown_stays (Reopened ∷ later) es i d l h = shown_stays later es i d l.0 h
  shown_stays (Surveyed _ _ _ ∷ later) es i d l h = shown_stays later es i d l.0 h
  shown_stays (Refused _ _ ∷ later) es i d l h = shown_stays later es i d l.0 h

  end_stands_for : (later sooner : List (Event V)) (k : Sort) (c t : ℕ) (v : V) → Life rule first entries (later ++ (Ended k c t v ∷ sooner)) →
      (from : Belongs sooner k c t) × ((d : Row V) → get_or (shown first (later ++ (Ended k c t v ∷ sooner))) (ends sooner) d ≡ operation v (next_tick first sooner) (start k c from.bay t))
  end_stands_for later sooner k c t v l =
      let n = sooner_life later (Ended k c t v ∷ sooner) l in
      let p = belongs_to sooner n.0 k c t (ended_due rule first entries sooner k c t v n.2) in (
        p,
        λ d.
            shown_stays later (Ended k c t v ∷ sooner) (ends sooner) d l (omega arith)
            ∙ (ap (λ bs. get_or (shown first sooner ++ map (operation v (next_tick first sooner)) bs) (ends sooner) d) p.only
            ∙ get_or_push (shown first sooner) (operation v (next_tick first sooner) (start k c p.bay t)) d (ends sooner) (lawful rule first entries sooner n.0).each),
      )

  -- what waits is not settled
  never_at : (es : List (Event V)) (k : Sort) (c t : ℕ) → settled es c t ≡ true → (x : Start) (z : Bool) → has_ticket k c t x ≡ z → (z && not (settled es x.cabinet x.tick)) ≡ false
  never_at es k c t h x false e = refl
  never_at es k c t h x true e =
      let q = and_parts (of c t x) (same_sort k x.sort) e in
      let r = and_parts (eqb c x.cabinet) (eqb t x.tick) q.0 in
      ap not ((λ i. settled es (sym (eqb-true c x.cabinet r.0) i) (sym (eqb-true t x.tick r.1) i)) ∙ h)

  waits_open : (es : List (Event V)) (k : Sort) (c t : ℕ) (z : Bool) → settled es c t ≡ z → 0 < length (filter (has_ticket k c t) (waiting es)) → z ≡ false
  waits_open es k c t false e w = refl
  waits_open es k c t true e w =
      let u : Start → Bool = λ x. not (settled es x.cabinet x.tick) in
      let n : filter (has_ticket k c t) (waiting es) ≡ [] = sym (kept_twice (has_ticket k c t) u (begun es)) ∙ (filter_agree (λ x. has_ticket k c t x && u x) (λ _. false) (λ x. never_at es k c t e x (has_ticket k c t x) refl) (begun es) ∙ kept_never (begun es)) in
      absurd (omega (arith, ap length n))

  settles_once : (es : List (Event V)) (k : Sort) (a n c t : ℕ) → 0 < length (filter (has_ticket k a n) (waiting es)) → ((eqb a c && eqb n t) || false) ≡ true → settled es c t ≡ false
  settles_once es k a n c t w e =
      let q = ⊎_elim (λ x. x) (λ x. absurd (false≢true x)) (or_cases (eqb a c && eqb n t) false e) in
      let r = and_parts (eqb a c) (eqb n t) q in
      (λ i. settled es (sym (eqb-true a c r.0) i) (sym (eqb-true n t r.1) i)) ∙ waits_open es k a n (settled es a n) refl w

  ends_once : (es : List (Event V)) (e : Event V) (c t : ℕ) → Due rule first entries es e → settled (e ∷ []) c t ≡ true → settled es c t ≡ false
  ends_once es (Begun _ _ _ _) c t l h = absurd (false≢true h)
  ends_once es (Ended k a n v) c t l h = settles_once es k a n c t (ended_due rule first entries es k a n v l) h
  ends_once es (Lost k a n) c t l h = settles_once es k a n c t (lost_due rule first entries es k a n l) h
  ends_once es Closed c t l h = absurd (false≢true h)
  ends_once es Reopened c t l h = absurd (false≢true h)
  ends_once es (Surveyed _ _ _) c t l h = absurd (false≢true h)
  ends_once es (Refused _ _) c t l h = absurd (false≢true h)

  -- a close tells what waits
  module _ (es : List (Event V)) (h : Lawful first es) where
    told_waits : (w : ℕ) → ToldByClose rule first entries es w → w ≡ length (waiting es)
    told_waits w (inl p) = omega (arith, p.1, h.quiet p.0)
    told_waits w (inr (inl p)) = omega (arith, p.2, closed_due rule first entries es p.1)
    told_waits w (inr (inr p)) = let e = p.1 in grind (arith, nat_tests)

    tells_waits : (r : Bool) → recording es ≡ r → (z : Bool) → eqb (length (waiting es)) 0 ≡ z → ToldByClose rule first entries es (length (waiting es))
    tells_waits false e z f = inl (e, h.quiet e)
    tells_waits true e true f = inr (inl (e, ap (λ x. cond x None (Some (refusal 22 (length (waiting es)) layer.Log))) f, eqb-true (length (waiting es)) 0 f))
    tells_waits true e false f = inr (inr (e, ap (λ x. cond x None (Some (refusal 22 (length (waiting es)) layer.Log))) f))

  law : (es : List (Event V)) → Life rule first entries es → Law rule first entries es
  law es l =
      let h = lawful rule first entries es l in
      record {
        balance = λ w p. omega (arith, h.balance, told_waits es h w p);
        told_some = tells_waits es h (recording es) refl (eqb (length (waiting es)) 0) refl;
        each = h.each;
        from_ends = λ place lt. end_at es place (omega (arith, h.each));
        stands_for = λ later sooner k c t v p.
            let q = end_stands_for later sooner k c t v (subst (λ x. Life rule first entries x) p l) in
            (q.0, λ d. ap (λ x. get_or (shown first x) (ends sooner) d) p ∙ q.1 d);
        lost_from = λ later sooner k c t p.
            let n = point es later (Lost k c t ∷ sooner) l p in
            belongs_to sooner n.0 k c t (lost_due rule first entries sooner k c t n.2);
        once = λ later sooner e c t p. ends_once sooner e c t (point es later (e ∷ sooner) l p).2;
        one_begin = h.one_begin;
        one_waits = h.one_waits;
        surveyed = λ later sooner bays limit report p. (point es later (Surveyed bays limit report ∷ sooner) l p).2.1;
        due = λ later sooner e p. (point es later (e ∷ sooner) l p).2;
      }

pub lives_lawful : {V : Type 0} (rule : SurveyRuleOf V) → LivesLawful rule
lives_lawful rule first entries es l later sooner p = law rule first entries sooner (point rule first entries es later sooner l p)
