-- The state of the search for one k, and what its steps keep.
use Rattle.std.proofs.Common.{◌≡◌, ℕ, suc, ◌+◌, ◌-◌, ◌*◌, ◌<◌, ◌≤◌, Bool, true, false, List, [], ◌∷◌, reverse, length, get_or, take, sym, refl, ap, ◌∙◌, subst, ap₂, add-one, arith}
use mathlib.Core.Option.{some}
use Rattle.orders.specs.RunUps.{Graph, Trials, First, NoneFor}
use Rattle.searching.specs.Masks.{mask_graph}
use Rattle.searching.specs.Standing.{free, pushed, popped}
use Rattle.searching.specs.declared.standing.Standing.{Standing}
use Rattle.searching.proofs.Fine.{may}
use Rattle.searching.proofs.Enumeration.{below, trials, first, rest, rest_skip, rest_take, rest_back, rest_end, rest_start, trials_short, first_short, trials_full, first_full, trials_some, trials_none, first_none}
use Rattle.searching.proofs.Counting.{trials_are, first_order, no_order}
use Rattle.searching.proofs.Masked.{Sound, members, members_length, members_turned, members_none, members_pushed, members_popped, sound_pushed, sound_popped, top_inside, tested}

-- how far the candidates of the members are from their end
pub distance : ℕ → List ℕ → ℕ
distance n [] = 0
distance n (x ∷ xs) = (n - x) + distance n xs

distance_cons : (n x : ℕ) (xs : List ℕ) → distance n (x ∷ xs) ≡ (n - x) + distance n xs
unfolding distance
distance_cons n x xs = refl

-- falls with each step
abbrev pub left_over : (n limit : ℕ) (s : Standing) (u t : ℕ) → ℕ
left_over n limit s u t = (limit - t) * 65 + ((n - u) + distance n (members s))

-- u is the next candidate after the members; t trials are counted, `from` of them for smaller k, and what is left to list is what the whole listing has besides
pub record At (n k limit from : ℕ) (before behind : List ℕ) (s : Standing) (u t : ℕ) : Type 0 where
  pub sound : Sound n k s
  pub short : s.count ≤ n - 1
  pub within : u ≤ n
  pub counted : t ≤ limit
  pub trials_is : t + trials n (rest n (may n before behind k) (members s) u) ≡ from + trials n (rest n (may n before behind k) [] 0)
  pub first_is : first n (rest n (may n before behind k) (members s) u) ≡ first n (rest n (may n before behind k) [] 0)

pub enter : {n k limit from : ℕ} {before behind : List ℕ} {s : Standing} → Sound n k s → s.count ≡ 0 → from ≤ limit → At n k limit from before behind s 0 from
enter {n} {k} {limit} {from} {before} {behind} o e h = record {
  sound = o;
  short = omega arith;
  within = omega arith;
  counted = h;
  trials_is = ap (λ q. from + trials n (rest n (may n before behind k) q 0)) (members_none o e);
  first_is = ap (λ q. first n (rest n (may n before behind k) q 0)) (members_none o e);
}

module _ {n k limit from : ℕ} {before behind : List ℕ} {s : Standing} {u t : ℕ} (a : At n k limit from before behind s u t) where
  abbrev ok : List ℕ → ℕ → Bool
  ok = may n before behind k

  abbrev g : Graph
  g = mask_graph n before behind

  passed : {b : Bool} → b ≡ free u (get_or before u 0) (get_or behind u 0) s.absent s.far → ok (members s) u ≡ b
  passed e = sym (e ∙ tested a.sound before behind u)

  pub skip : u < n → false ≡ free u (get_or before u 0) (get_or behind u 0) s.absent s.far → At n k limit from before behind s (u + 1) t
  skip h e =
      let next = rest_skip n ok (members s) u h (passed e) in
      rw add-one (record {
        sound = a.sound;
        short = a.short;
        within = omega arith;
        counted = a.counted;
        trials_is = ap (λ l. t + trials n l) (sym next) ∙ a.trials_is;
        first_is = ap (first n) (sym next) ∙ a.first_is;
      })

  module _ (h : u < n) (e : true ≡ free u (get_or before u 0) (get_or behind u 0) s.absent s.far) where
    -- it goes on with u, or passes the limit by that
    next : (more : List (List ℕ)) × (rest n ok (members s) u ≡ (u ∷ members s) ∷ more) × (suc (length (members s)) < n → more ≡ rest n ok (u ∷ members s) 0)
    next = rest_take n ok (members s) u h (passed e)

    pub over : limit ≤ t → (b : ℕ) × Trials g k b × (limit < from + b)
    over end =
        let x : trials n (rest n ok (members s) u) ≡ trials n ((u ∷ members s) ∷ next.0) = ap (trials n) next.1 in
        let y = trials_some n (u ∷ members s) next.0 in
        let count : trials n (below n ok n []) ≡ trials n (rest n ok [] 0) = ap (trials n) (rest_start n ok) in
        (trials n (below n ok n []), trials_are before behind n k a.sound.some_k, omega (arith, a.trials_is))

    module _ (s' : Standing) (is : s' ≡ pushed k u s) where
      room : s.count < n
      room = omega (arith, a.short)

      count_is : s'.count ≡ s.count + 1
      count_is = ap (λ z. z.count) is

      grown : members s' ≡ u ∷ members s
      grown = ap members is ∙ members_pushed a.sound u h room

      sound' : Sound n k s'
      sound' = subst (Sound n k) (sym is) (sound_pushed a.sound u h room)

      pub push : (t' : ℕ) → t < limit → t' ≡ t + 1 → (s'.count ≡ n → ⊥) → At n k limit from before behind s' 0 t'
      push t' more one open' =
          let len = members_length a.sound in
          let many = count_is in
          let lt : suc (length (members s)) < n = omega (arith, a.short) in
          let ne : suc (length (members s)) ≡ n → ⊥ = omega arith in
          let x : trials n (rest n ok (members s) u) ≡ suc (trials n (rest n ok (u ∷ members s) 0)) =
          ap (trials n) next.1 ∙ trials_short n (u ∷ members s) next.0 ne ∙ ap (λ l. suc (trials n l)) (next.2 lt) in
          let y : first n (rest n ok (members s) u) ≡ first n (rest n ok (u ∷ members s) 0) =
          ap (first n) next.1 ∙ first_short n (u ∷ members s) next.0 ne ∙ ap (first n) (next.2 lt) in
          let z : trials n (rest n ok (members s') 0) ≡ trials n (rest n ok (u ∷ members s) 0) = ap (λ q. trials n (rest n ok q 0)) grown in
          record {
            sound = sound';
            short = omega (arith, a.short);
            within = omega arith;
            counted = omega (arith, a.counted);
            trials_is = omega (arith, a.trials_is);
            first_is = ap (λ q. first n (rest n ok q 0)) grown ∙ sym y ∙ a.first_is;
          }

      pub push_less : (t' : ℕ) → t < limit → t' ≡ t + 1 → left_over n limit s' 0 t' < left_over n limit s u t
      push_less t' more one =
          let d : distance n (members s') ≡ (n - u) + distance n (members s) = ap (distance n) grown ∙ distance_cons n u (members s) in
          omega (arith, a.counted, a.sound.small)

      pub found : (t' : ℕ) → t' ≡ t + 1 → s'.count ≡ n → First g k (take n s'.writes) × ((b : ℕ) × Trials g k b × (t' ≡ from + b))
      found t' one end =
          let len = members_length a.sound in
          let many = count_is in
          let full : suc (length (members s)) ≡ n = omega arith in
          let start = rest_start n ok in
          let x : trials n (rest n ok (members s) u) ≡ 1 = ap (trials n) next.1 ∙ trials_full n (u ∷ members s) next.0 full in
          let y : first n (rest n ok (members s) u) ≡ some (u ∷ members s) = ap (first n) next.1 ∙ first_full n (u ∷ members s) next.0 full in
          let row : reverse (u ∷ members s) ≡ take n s'.writes = ap reverse (sym grown) ∙ members_turned sound' end in
          let count : trials n (below n ok n []) ≡ trials n (rest n ok [] 0) = ap (trials n) start in (
            subst (First g k) row (first_order before behind n k a.sound.some_k (u ∷ members s) (ap (first n) start ∙ sym a.first_is ∙ y)),
            (trials n (below n ok n []), trials_are before behind n k a.sound.some_k, omega (arith, a.trials_is)),
          )

  pub top_below : 0 < s.count → get_or s.writes (s.count - 1) 0 < n
  top_below have = top_inside a.sound have

  module _ (h : n ≤ u) where
    at_end : u ≡ n
    at_end = omega (arith, a.within)

    module _ (s' : Standing) (w : ℕ) (is : s' ≡ popped k s) (top : w ≡ get_or s.writes (s.count - 1) 0) (have : 0 < s.count) where
      shrunk : members s ≡ w ∷ members s'
      shrunk = members_popped a.sound have ∙ ap₂ (λ (x : ℕ) (q : List ℕ). x ∷ q) (sym top) (ap members (sym is))

      pub pop : At n k limit from before behind s' (w + 1) t
      pop =
          let lt = top_below have in
          let back : rest n ok (members s) u ≡ rest n ok (members s') (w + 1) =
          ap (rest n ok (members s)) at_end
          ∙ ap (λ l. rest n ok l n) shrunk
          ∙ rest_back n ok w (members s')
          ∙ ap (rest n ok (members s')) (sym (add-one w)) in
          let many : s'.count ≡ s.count - 1 = ap (λ z. z.count) is in
          record {
            sound = subst (Sound n k) (sym is) (sound_popped a.sound have);
            short = omega (arith, a.short);
            within = omega arith;
            counted = a.counted;
            trials_is = ap (λ l. t + trials n l) (sym back) ∙ a.trials_is;
            first_is = ap (first n) (sym back) ∙ a.first_is;
          }

      pub pop_less : left_over n limit s' (w + 1) t < left_over n limit s u t
      pop_less =
          let lt = top_below have in
          let d = ap (distance n) shrunk ∙ distance_cons n w (members s') in
          omega arith

    pub nothing : s.count ≡ 0 → NoneFor g k × ((b : ℕ) × Trials g k b × (t ≡ from + b))
    nothing none' =
        let start = rest_start n ok in
        let r : rest n ok (members s) u ≡ [] = ap (rest n ok (members s)) at_end ∙ ap (λ q. rest n ok q n) (members_none a.sound none') ∙ rest_end n ok in
        let x : trials n (rest n ok (members s) u) ≡ 0 = ap (trials n) r ∙ trials_none n in
        let count : trials n (below n ok n []) ≡ trials n (rest n ok [] 0) = ap (trials n) start in (
          no_order before behind n k a.sound.some_k (ap (first n) start ∙ sym a.first_is ∙ ap (first n) r ∙ first_none n),
          (trials n (below n ok n []), trials_are before behind n k a.sound.some_k, omega (arith, a.trials_is)),
        )
