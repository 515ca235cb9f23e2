-- What the search over masks says of the bay's writes. Assumes nothing.
use Rattle.std.proofs.Common.{◌≡◌, ℕ, ◌<◌, ◌≤◌, cond, List, [], length, get_or, take, Ok, Err, Result, sym, refl, ap, ◌∙◌, subst, arith}
use Rattle.std.proofs.lemmas.List.{get_or-map}
use Rattle.masks.specs.Masks.{has_bit}
use Rattle.lists.specs.Lists.{listed}
use Rattle.orders.specs.Claims.{Judgeable}
use Rattle.orders.specs.Orders.{Operation, of_bay, write_count, bay_graph, Distinct}
use Rattle.orders.specs.RunUps.{Tried}
use Rattle.bays.specs.Verdicts.{BayJudged, idle, tried, Overrun}
use Rattle.bays.specs.Writes.{write_places}
use Rattle.bays.proofs.Ages.{overrun, some_order}
use Rattle.bays.proofs.Ranks.{places_count, places_rising, place_writes, write_listed}
use Rattle.gathering.specs.declared.bay.Bay.{Bay}
use Rattle.gathering.specs.Spans.{Span, spans}
use Rattle.gathering.specs.Gathering.{Seen, Gathered}
use Rattle.gathering.specs.Writes.{places}
use Rattle.searching.specs.Masks.{mask_graph}
use Rattle.searching.specs.Outcome.{befores, behinds, Found, Missed}
use Rattle.searching.specs.declared.edges.EdgeMasks.{EdgeMasks}
use Rattle.searching.specs.declared.search.FirstOrder.{FirstOrder}
use Rattle.searching.specs.declared.search.NotFound.{NotFound}
use Rattle.searching.specs.declared.search.NotFound.TheVariants.{OverLimit, NoOrder}
use Rattle.searching.proofs.Indices.{entry_below}
use Rattle.searching.proofs.Renaming.{Renamed, none_renamed, none_below_renamed, trials_up_to_renamed, tried_renamed}
use Rattle.trying.specs.Edges.{is_into, is_from}
use Rattle.trying.specs.Trying.{placed, RanksUpTo, RanksSearched}
use Rattle.gathering.proofs.Seen.{count}
use Rattle.trying.proofs.Edged.{ranked, into_is, from_is}
use Rattle.trying.proofs.Masked.{bits_at}

-- ranks that the search found are ranks
pub ranks_found : (ws : List Span) (limit : ℕ) (f : FirstOrder) → length ws ≤ 64 → RanksSearched ws limit (Ok f) → RanksUpTo (length ws) f.writes
ranks_found ws limit f few s = go (length s.edges) s.all s.searched
  where
    go : (n : ℕ) → n ≡ length ws → Found (mask_graph n (befores s.edges) (behinds s.edges)) n limit f → RanksUpTo (length ws) f.writes
    go n e found = subst (λ k. RanksUpTo k f.writes) e (entry_below (mask_graph n (befores s.edges) (behinds s.edges)) n f.age (λ p. refl) f.writes found.0.first.order)

module _ (ops : List Operation) (b : ℕ) (ws : List Span) (seen : Seen ops b (length ops) ws) (dist : Distinct ops (of_bay b)) (limit : ℕ) (r : Result FirstOrder NotFound) (s : RanksSearched ws limit r) where
  -- no edges
  none : EdgeMasks
  none = record { before = 0; behind = 0 }

  -- the masks say the writes of the bay and their edges, by rank
  renamed : (n : ℕ) → n ≡ length ws → Renamed (mask_graph n (befores s.edges) (behinds s.edges)) (bay_graph ops b) n (λ i. get_or (write_places ops b) i 0)
  renamed n e = record {
    ranks = λ i. refl;
    rising = λ i j l h. places_rising ops b i j l (omega (arith, count ops b (length ops) ws seen));
    listed = λ i h. place_writes ops b i (omega (arith, count ops b (length ops) ws seen));
    only = λ p h. let x = write_listed ops b p h in (x.0, omega (arith, x.1, count ops b (length ops) ws seen), x.2);
    write_edges = λ i j h l.
        let v = ranked ws i (omega arith) in
        let w = ranked ws j (omega arith) in
        ap (λ mask. has_bit mask i) (get_or-map (λ m. m.before) s.edges j none 0 (omega (arith, s.all)))
        ∙ bits_at (length ws) (is_into ws w.0) (get_or s.edges j none).before (s.at_ranks j none (omega (arith, s.all)) w.0 w.1).0 i (omega arith)
        ∙ into_is ops b ws seen dist i j v.0 w.0 (omega arith) (omega arith) v.1 w.1;
    read_edges = λ i j h l.
        let v = ranked ws i (omega arith) in
        let w = ranked ws j (omega arith) in
        ap (λ mask. has_bit mask j) (get_or-map (λ m. m.behind) s.edges i none 0 (omega (arith, s.all)))
        ∙ bits_at (length ws) (is_from ws i v.0) (get_or s.edges i none).behind (s.at_ranks i none (omega (arith, s.all)) v.0 v.1).1 j (omega arith)
        ∙ from_is ops b ws seen dist i j v.0 w.0 (omega arith) (omega arith) v.1 w.1;
  }

-- so the search over the masks is one over the writes of the bay
module _ (ops : List Operation) (b : ℕ) (bay : Bay) (gathered : Gathered ops b bay) (limit : ℕ) where
  number : length (spans (listed bay.writes)) ≡ write_count ops b
  number = count ops b (length ops) (spans (listed bay.writes)) gathered.writes ∙ places_count ops b

  -- a bay without a write
  pub judged_idle : length (spans (listed bay.writes)) ≡ 0 → (order : List ℕ) → order ≡ [] → BayJudged ops b 0 0 order × (0 ≤ limit) × (length order ≡ write_count ops b)
  judged_idle e order empty =
      let none = sym number ∙ e in
      (idle none refl refl empty, omega arith, ap length empty ∙ sym none)

  module _ (ready : Judgeable ops (of_bay b)) where
    -- the order that is found of one with a write
    pub judged_found : (f : FirstOrder) (order : List ℕ) (age : ℕ) → 0 < length (spans (listed bay.writes)) → RanksSearched (spans (listed bay.writes)) limit (Ok f) → order ≡ placed (places (spans (listed bay.writes))) (take (length (spans (listed bay.writes))) f.writes) → length order ≡ length (spans (listed bay.writes)) → age ≡ cond bay.read f.age 0 → BayJudged ops b age f.trials order × (f.trials ≤ limit) × (length order ≡ write_count ops b)
    judged_found f order age some s same all aged =
        go (length s.edges) s.all s.searched
      where
        go : (n : ℕ) → n ≡ length (spans (listed bay.writes)) → Found (mask_graph n (befores s.edges) (behinds s.edges)) n limit f → BayJudged ops b age f.trials order × (f.trials ≤ limit) × (length order ≡ write_count ops b)
        go n e found =
            let x = renamed ops b (spans (listed bay.writes)) gathered.writes ready.distinct limit (Ok f) s n e in
            let t = tried_renamed x f.age f.trials (take n f.writes) found.0 in (
              tried f.age (omega (arith, number))
                  (subst (Tried (bay_graph ops b) f.age f.trials) (sym (same ∙ ap (λ l. placed l (take (length (spans (listed bay.writes))) f.writes)) gathered.writes.ranked)) (subst (λ k. Tried (bay_graph ops b) f.age f.trials (placed (write_places ops b) (take k f.writes))) e t))
                  (aged ∙ ap (λ c. cond c f.age 0) gathered.read),
              found.1,
              all ∙ number,
            )

    -- and none is found because its trials pass the limit
    pub judged_missed : 0 < length (spans (listed bay.writes)) → (e : NotFound) → RanksSearched (spans (listed bay.writes)) limit (Err e) → Overrun ops b limit
    judged_missed some why s = go (length s.edges) s.all why refl s.searched
      where
        first : ℕ
        first = get_or (write_places ops b) 0 0

        go : (n : ℕ) → n ≡ length (spans (listed bay.writes)) → (e : NotFound) → why ≡ e → Missed (mask_graph n (befores s.edges) (behinds s.edges)) n limit e → Overrun ops b limit
        go n e OverLimit q missed =
            let x = renamed ops b (spans (listed bay.writes)) gathered.writes ready.distinct limit (Err why) s n e in
            overrun ops b ready first (place_writes ops b 0 (omega (arith, number, places_count ops b))) missed.0 missed.1 limit (none_below_renamed x missed.0 missed.4) (trials_up_to_renamed x missed.0 missed.1 missed.5) missed.6
        go n e NoOrder q missed =
            let x = renamed ops b (spans (listed bay.writes)) gathered.writes ready.distinct limit (Err why) s n e in
            absurd (some_order ops b ready first (place_writes ops b 0 (omega (arith, number, places_count ops b))) (λ k h. none_renamed x k (missed k h)))
