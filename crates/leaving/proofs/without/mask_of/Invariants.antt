use Rattle.std.proofs.Common.{◌≤◌, length, take}
use Rattle.leaving.specs.Leaving.{BaysUpTo, MaskOf}
use Rattle.leaving.proofs.without.mask_of.Given as goal

abbrev pub invariant-loop-place : goal.invariant-loop-place
invariant-loop-place l = (l.place ≤ length l.bays) × BaysUpTo l.bays l.place × MaskOf (take l.place l.bays) l.mask
