-- Each step of the loops is a step of the listing.
use Rattle.std.proofs.Common.{◌≡◌, ℕ, ◌+◌, ◌<◌, Bool, List, length, get_or, sym, refl, ap, ◌∙◌, subst, ap₂, arith}
use Rattle.std.proofs.lemmas.List.{get_or-map}
use Rattle.std.proofs.lemmas.Result.{err_from_is_err_and}
use Rattle.searching.specs.Outcome.{befores, behinds}
use Rattle.searching.specs.Standing.{free}
use Rattle.searching.specs.declared.edges.EdgeMasks.{EdgeMasks}
use Rattle.searching.proofs.Masked.{Sound, sound_started, sound_again, holds}
use Rattle.searching.proofs.Ages.{trials_more, trials_next, none_more, none_beyond}
use Rattle.searching.proofs.State.{enter, skip, push, push_less, pop, pop_less, top_below, found, over, nothing}
use Rattle.searching.proofs.edges.Edges.search.Goals as goal

-- what may be taken is decided by the tables of the edges at each write
taken : {b : Bool} → (masks : List EdgeMasks) (write : ℕ) → write < length masks → (absent far : ℕ) → b ≡ free write (get_or masks write (record { before = 0; behind = 0 })).before (get_or masks write (record { before = 0; behind = 0 })).behind absent far → b ≡ free write (get_or (befores masks) write 0) (get_or (behinds masks) write 0) absent far
taken masks write h absent far e = e ∙ ap₂ (λ before behind. free write before behind absent far) (sym (get_or-map (λ m. m.before) masks write _ 0 h)) (sym (get_or-map (λ m. m.behind) masks write _ 0 h))

pub ages-init : goal.ages-init
ages-init c =
    let is = c.none-standing.ensures in (
      subst (Sound (length c.args.self.now.masks.now) 1) (sym is) (sound_started _ 1 c.args.self.now.few (omega arith)),
      ap (λ s. s.count) is,
      omega arith,
      omega arith,
      refl,
      λ j h l. absurd (omega arith),
    )

pub place-init : goal.place-init
place-init c = enter c.ages.invariant.0 c.ages.invariant.1 c.ages.invariant.3

pub returns-in_err-trials : goal.returns-in_err-trials
returns-in_err-trials c =
    let p = err_from_is_err_and c.from_residual.result c.from_residual.ensures.1 in
    let over-limit = c.in_err-trials.ensures in
    let at = c.pick.invariant.0 c.ages.trials c.place.invariant in
    let passes = over at c.pick-test.true (taken c.args.self.now.masks.now c.pick.write c.pick-test.true _ _ c.if-may_take.ensures) over-limit.0 in
    let own = at.sound.some_k in
    let tried = c.ages.invariant.2 in
    rw (p.1, p.2, over-limit.1) (
      c.ages.k,
      c.ages.trials + passes.0,
      own,
      omega arith,
      c.ages.invariant.5,
      trials_more _ c.ages.k c.ages.trials passes.0 _ own c.ages.invariant.4 passes.1 refl,
      passes.2,
    )

pub push-requires : goal.push-requires
push-requires c =
    let at = c.pick.invariant.0 c.ages.trials c.place.invariant in
    (holds at.sound, (omega (arith, at.short, at.sound.small), (omega (arith, at.sound.small), at.sound.some_k)))

pub place-smaller-then-may_take : goal.place-smaller-then-may_take
place-smaller-then-may_take c =
    let at = c.pick.invariant.0 c.ages.trials c.place.invariant in
    let less = push_less at c.pick-test.true (taken c.args.self.now.masks.now c.pick.write c.pick-test.true _ _ c.if-may_take.ensures) _ c.push.ensures _ c.in_ok-trials.ensures.0 c.in_ok-trials.ensures.1 in
    omega (arith, c.pick.invariant.1)

pub place-preserved-then-may_take : goal.place-preserved-then-may_take
place-preserved-then-may_take c =
    let at = c.pick.invariant.0 c.ages.trials c.place.invariant in
    push at c.pick-test.true (taken c.args.self.now.masks.now c.pick.write c.pick-test.true _ _ c.if-may_take.ensures) _ c.push.ensures _ c.in_ok-trials.ensures.0 c.in_ok-trials.ensures.1 c.if-standing-n.false

pub pick-preserved : goal.pick-preserved
pick-preserved c = (
  λ from at. skip (c.pick.invariant.0 from at) c.pick-test.true (taken c.args.self.now.masks.now c.pick.write c.pick-test.true _ _ c.if-may_take.ensures),
  omega (arith, c.pick.invariant.1),
)

pub pop-write-requires : goal.pop-write-requires
pop-write-requires c =
    let at = c.pick.invariant.0 c.ages.trials c.place.invariant in
    (holds at.sound, (omega arith, at.sound.some_k))

pub overflow_add-write-in-place : goal.overflow_add-write-in-place
overflow_add-write-in-place c =
    let at = c.pick.invariant.0 c.ages.trials c.place.invariant in
    let lt = top_below at (omega arith) in
    omega (arith, c.pop-write.ensures.0, at.sound.small)

pub place-smaller : goal.place-smaller
place-smaller c =
    let at = c.pick.invariant.0 c.ages.trials c.place.invariant in
    let less = pop_less at c.pick-test.false _ _ c.pop-write.ensures.1 c.pop-write.ensures.0 (omega arith) in
    omega (arith, c.pick.invariant.1)

pub place-preserved : goal.place-preserved
place-preserved c =
    let at = c.pick.invariant.0 c.ages.trials c.place.invariant in
    pop at c.pick-test.false _ _ c.pop-write.ensures.1 c.pop-write.ensures.0 (omega arith)

pub returns-then-k-n : goal.returns-then-k-n
returns-then-k-n c =
    let at = c.pick.invariant.0 c.ages.trials c.place.invariant in
    let none = nothing at c.pick-test.false c.if-standing-eq0.true in
    none_beyond _ (length c.args.self.now.masks.now) c.ages.k (λ _. refl) at.sound.some_k c.if-k-n.true (none_more _ c.ages.k c.ages.invariant.5 none.0)

pub ages-preserved : goal.ages-preserved
ages-preserved c =
    let at = c.pick.invariant.0 c.ages.trials c.place.invariant in
    let none = nothing at c.pick-test.false c.if-standing-eq0.true in
    let own = at.sound.some_k in (
      sound_again at.sound (c.ages.k + 1) (omega arith) c.if-standing-eq0.true,
      c.if-standing-eq0.true,
      omega arith,
      at.counted,
      trials_next _ c.ages.k c.ages.trials none.1.0 _ own c.ages.invariant.4 none.1.1 none.1.2,
      none_more _ c.ages.k c.ages.invariant.5 none.0,
    )

pub returns : goal.returns
returns c =
    let at = c.pick.invariant.0 c.ages.trials c.place.invariant in
    let first = found at c.pick-test.true (taken c.args.self.now.masks.now c.pick.write c.pick-test.true _ _ c.if-may_take.ensures) _ c.push.ensures _ c.in_ok-trials.ensures.1 c.if-standing-n.true in
    let own = at.sound.some_k in (
      record {
        from_one = own;
        none_below = c.ages.invariant.5;
        first = first.0;
        trials = trials_more _ c.ages.k c.ages.trials first.1.0 _ own c.ages.invariant.4 first.1.1 first.1.2;
      },
      omega (arith, c.in_ok-trials.ensures.0, c.in_ok-trials.ensures.1),
    )
