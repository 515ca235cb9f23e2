use Rattle.std.proofs.Common.{◌<◌, [], ◌∷◌, ◌++◌, length, get_or, take, sym, ap, ◌∙◌, subst, append_assoc, arith}
use Rattle.std.proofs.lemmas.List.{length-append, length-take-le, take_more, take_all}
use Rattle.operations.specs.Rooms.{held, Pushed}
use Rattle.surveying.proofs.keeping.extend.Goals as goal

pub unwrap-requires : goal.unwrap-requires
unwrap-requires c =
    let places = c.args.places.now in let i = c.loop-place.place-index in
    let room : length (held c.loop-place.orders) < 512 = omega (arith, ap length c.loop-place.invariant, length-append (held c.args.orders.now) (take i places), length-take-le i places (omega arith), c.requires) in
    grind (arith, c.push.ensures, room)

pub loop-place-preserved : goal.loop-place-preserved
loop-place-preserved c =
    let places = c.args.places.now in let i = c.loop-place.place-index in
    subst (Pushed (held c.loop-place.orders) (get_or places i 0) (held c.push.new.self)) c.unwrap.ensures c.push.ensures ∙ ap (λ l. l ++ (get_or places i 0 ∷ [])) c.loop-place.invariant
    ∙ append_assoc (held c.args.orders.now) (take i places) (get_or places i 0 ∷ [])
    ∙ ap (λ l. held c.args.orders.now ++ l) (sym (take_more places i 0 c.loop-place-test.true))

pub returns : goal.returns
returns c = c.loop-place.invariant ∙ ap (λ l. held c.args.orders.now ++ l) (take_all c.loop-place.place-index c.args.places.now (omega arith))
