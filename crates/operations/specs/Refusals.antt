-- The number, place and layer of the refusals of this crate. Assumes nothing.
use Rattle.std.specs.Prelude.{ℕ}
use Rattle.operations.specs.declared.refusal.Layer.{Layer}
use Rattle.operations.specs.declared.refusal.Layer.TheVariants as layer
use Rattle.operations.specs.declared.refusal.NoBay.{NoBay}
use Rattle.operations.specs.declared.refusal.PastEnd.{PastEnd}
use Rattle.operations.specs.declared.refusal.Refusal.{Refusal}

-- the refusal of this number, at this place, by this layer
abbrev pub refusal : ℕ → ℕ → Layer → Refusal
refusal number place by = record { number = number; place = place; layer = by }

-- 6: an entry of a list of bays is above 63; the place is the entry
abbrev pub no_bay : NoBay → Refusal
no_bay e = refusal 6 e.entry layer.List

-- 7: the place asked for is at or past the length; the place is that one
abbrev pub past_end : PastEnd → Refusal
past_end e = refusal 7 e.place layer.Source
