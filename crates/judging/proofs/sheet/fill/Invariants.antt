use Rattle.std.proofs.Common.{◌≡◌, ◌++◌, take, drop}
use Rattle.judging.proofs.sheet.fill.Given as goal

abbrev pub invariant-loop-place : goal.invariant-loop-place
invariant-loop-place l = (l.entries.len ≡ l.place-index) × (l.entries.items.now ≡ take l.place-index l.order ++ drop l.place-index l.initial.entries.items.now) × (l.entries.items.ghost_name ≡ l.initial.entries.items.ghost_name)
