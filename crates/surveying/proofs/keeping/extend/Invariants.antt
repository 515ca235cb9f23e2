use Rattle.std.proofs.Common.{◌≡◌, ◌++◌, take}
use Rattle.operations.specs.Rooms.{held}
use Rattle.surveying.proofs.keeping.extend.Given as goal

abbrev pub invariant-loop-place : goal.invariant-loop-place
invariant-loop-place l = held l.orders ≡ held l.initial.orders ++ take l.place-index l.places
