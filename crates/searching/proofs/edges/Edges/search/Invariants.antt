-- The state of each loop is the state of the listing.
use Rattle.std.proofs.Common.{◌≡◌, ℕ, ◌-◌, ◌≤◌}
use Rattle.orders.specs.RunUps.{TrialsUpTo, NoneBelow}
use Rattle.searching.specs.Masks.{mask_graph}
use Rattle.searching.specs.Outcome.{befores, behinds}
use Rattle.searching.proofs.Masked.{Sound}
use Rattle.searching.proofs.State.{At, left_over}
use Rattle.searching.proofs.edges.Edges.search.Given as goal

abbrev pub invariant-pick : goal.invariant-pick
invariant-pick l =
    ((from : ℕ) → At l.n l.k l.limit from (befores l.self.masks.now) (behinds l.self.masks.now) l.initial.standing l.initial.write l.initial.trials → At l.n l.k l.limit from (befores l.self.masks.now) (behinds l.self.masks.now) l.standing l.write l.trials)
    × (left_over l.n l.limit l.standing l.write l.trials ≤ left_over l.n l.limit l.initial.standing l.initial.write l.initial.trials)

abbrev pub decreases-pick : goal.decreases-pick
decreases-pick l = l.n - l.write

abbrev pub invariant-place : goal.invariant-place
invariant-place l = At l.n l.k l.limit l.initial.trials (befores l.self.masks.now) (behinds l.self.masks.now) l.standing l.write l.trials

abbrev pub decreases-place : goal.decreases-place
decreases-place l = left_over l.n l.limit l.standing l.write l.trials

abbrev pub invariant-ages : goal.invariant-ages
invariant-ages l =
    Sound l.n l.k l.standing
    × (l.standing.count ≡ 0)
    × (l.k - 1 ≤ l.n - 1)
    × (l.trials ≤ l.limit)
    × TrialsUpTo (mask_graph l.n (befores l.self.masks.now) (behinds l.self.masks.now)) (l.k - 1) l.trials
    × NoneBelow (mask_graph l.n (befores l.self.masks.now) (behinds l.self.masks.now)) l.k

abbrev pub decreases-ages : goal.decreases-ages
decreases-ages l = l.n - l.k
